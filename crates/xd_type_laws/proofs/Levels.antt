-- Types at the levels of the grammar: from primaries to alternatives, and back by parentheses.
use Rattle.std.proofs.Common.{◌≡◌, ◌≢◌, ℕ, suc, ◌+◌, ◌<◌, ◌≤◌, max, Bool, true, false, List, [], ◌∷◌, ◌++◌, map, flat_map, length, get_or, refl, ap, sym, subst, ◌∙◌, inl, inr, arith, append_assoc, append-nil}
use Rattle.std.specs.Prelude.{◌==◌, ◌||◌, slice_index}
use Rattle.std.specs.List.{AllByRecursion}
use Rattle.std.proofs.lemmas.Bool.{or_right}
use Rattle.xd_base.specs.declared.Place.{Place}
use Rattle.xd_lex.specs.declared.Kind.{Kind}
use Rattle.xd_lex.specs.declared.Kind.TheVariants as kinds
use Rattle.xd_lex.specs.Tokens.{past}
use Rattle.xd_lex.proofs.Symbols.{IsToken, EndsWord, paren_l, paren_r, comma, bar, star, plus, query}
use Rattle.xd_syntax.specs.Tree.{Tree, Empty, Seq, Alt, Star, Plus, Opt, seq_of, is_empty}
use Rattle.xd_syntax.specs.TreeForms.{alt_of, is_seq, is_alt}
use Rattle.xd_syntax.specs.Placed.{PlacedTree, unplaced, place_of, placed_seq, placed_alt}
use Rattle.xd_syntax.specs.Placed as placed
use Rattle.xd_grammar.specs.declared.grammar.Nonterminal.{Nonterminal}
use Rattle.xd_grammar.specs.declared.grammar.Nonterminal.TheVariants as n
use Rattle.xd_grammar.specs.declared.grammar.Sort.TheVariants as sorts
use Rattle.xd_grammar.specs.declared.grammar.Symbol.TheVariants.{Token, Opening, Closed, Unless, Part}
use Rattle.xd_grammar.specs.declared.grammar.Terminal.{Terminal}
use Rattle.xd_grammar.specs.declared.grammar.Terminal.TheVariants as t
use Rattle.xd_grammar.specs.Fits.{same}
use Rattle.xd_parse_trees.specs.Merged.{parts_of_seq, parts_of_alt, merged_seq, sequence, alternative}
use Rattle.xd_doc.specs.Members.{IsOneOf}
use Rattle.xd_grammar.specs.Grammar.{rules}
use Rattle.xd_grammar.specs.Text.{kind_terminal}
use Rattle.xd_parse_trees.specs.Values.{Value, absent, a_tree, token_of, trees, value_of}
use Rattle.xd_type_laws.proofs.RowsReadLemmas.{Reads, read_end, read_token, read_opening, read_closed, read_alone, read_then, read_unless, same_bytes, Starts, starts_token}

-- ---- what may stand after
abbrev pub closes : Terminal → Bool
closes t.ParenR = true
closes t.BracketR = true
closes t.Type = true
closes t.End = true
closes k = false

abbrev pub behind_any : Terminal → Bool
behind_any k = closes k

abbrev pub behind_sequence : Terminal → Bool
behind_sequence k = same t.Bar k || closes k

abbrev pub behind_post : Terminal → Bool
behind_post k = same t.Comma k || behind_sequence k

abbrev pub behind_prim : Terminal → Bool
behind_prim k = same t.Star k || (same t.Plus k || (same t.Query k || behind_post k))

pub record Follows (ok : Terminal → Bool) (rest : List ℕ) : Type 0 where
  pub terminal : Terminal
  pub starts : Starts rest terminal
  pub may : ok terminal ≡ true
  pub ends : EndsWord rest

pub widely : (ok more : Terminal → Bool) → ((k : Terminal) → ok k ≡ true → more k ≡ true) → (rest : List ℕ) → Follows ok rest → Follows more rest
widely ok more h rest f = record { terminal = f.terminal; starts = f.starts; may = h f.terminal f.may; ends = f.ends }

to_sequence : (rest : List ℕ) → Follows behind_any rest → Follows behind_sequence rest
to_sequence rest f = widely behind_any behind_sequence (λ k e. or_right (same t.Bar k) (closes k) e) rest f

to_post : (rest : List ℕ) → Follows behind_sequence rest → Follows behind_post rest
to_post rest f = widely behind_sequence behind_post (λ k e. or_right (same t.Comma k) (behind_sequence k) e) rest f

to_prim : (rest : List ℕ) → Follows behind_post rest → Follows behind_prim rest
to_prim rest f = widely behind_post behind_prim (λ k e. or_right (same t.Star k) _ (or_right (same t.Plus k) _ (or_right (same t.Query k) (behind_post k) e))) rest f

other : (ok : Terminal → Bool) (j k : Terminal) → ok j ≡ false → ok k ≡ true → j ≢ k
other ok j k e h f = let z : false ≡ true = sym e ∙ ap ok f ∙ h in cc

-- ---- what a nonterminal reads
abbrev pub IsRead : (l d : ℕ) → Nonterminal → Place → (s rest : List ℕ) → Tree → Type 0
IsRead l d part p s rest T = (U : PlacedTree) × (unplaced U ≡ T) × Reads l d (Part part ∷ []) d p s rest (a_tree U ∷ [])

-- the bytes are read as this type, wherever k levels more may be opened and what follows may follow
pub record Spells (part : Nonterminal) (ok : Terminal → Bool) (s : List ℕ) (T : Tree) (k : ℕ) : Type 0 where
  pub some : 0 < length s
  pub front : (get_or s 0 0 == 42) ≡ false
  pub read : (l d : ℕ) (p : Place) (rest : List ℕ) → k + d ≤ l → Follows ok rest → IsRead l d part p s rest T

-- as parts of a sequence, or as branches of an alternative
pub record SpellsList (part more : Nonterminal) (ok : Terminal → Bool) (s : List ℕ) (Ts : List Tree) (k : ℕ) : Type 0 where
  pub some : 0 < length s
  pub front : (get_or s 0 0 == 42) ≡ false
  pub read : (l d : ℕ) (p : Place) (rest : List ℕ) → k + d ≤ l → Follows ok rest → (V : PlacedTree) × (Vs : List PlacedTree) × (map unplaced (V ∷ Vs) ≡ Ts) × Reads l d (Part part ∷ Part more ∷ []) d p s rest (a_tree V ∷ (trees Vs ∷ []))

abbrev pub prim : Nonterminal
prim = n.Prim sorts.Type

abbrev pub post : Nonterminal
post = n.Post sorts.Type

abbrev pub seq : Nonterminal
seq = n.Sequence sorts.Type

abbrev pub alt : Nonterminal
alt = n.Alternative sorts.Type

pub front_kept : (s r : List ℕ) → 0 < length s → (get_or s 0 0 == 42) ≡ false → (slice_index (s ++ r) 0 == 42) ≡ false
front_kept [] r h e = absurd (omega (arith, h))
front_kept (c ∷ cs) r h e = e

-- ---- parentheses
group_read : (l d : ℕ) (p : Place) (s rest : List ℕ) (T : Tree) → Follows behind_prim rest → IsRead l (suc d) alt p s (41 ∷ rest) T →
    (U : PlacedTree) × (unplaced U ≡ T) × Reads l (suc d) (Part (n.Group sorts.Type) ∷ []) d p (s ++ 41 ∷ []) rest (a_tree U ∷ [])
group_read l d p s rest T f a = (
  a.0,
  a.1,
  read_alone l (suc d) d (n.Group sorts.Type) (Part alt ∷ Token t.ParenR ∷ Closed ∷ Unless t.BracketL ∷ []) p (s ++ 41 ∷ []) rest _ (inr (inl refl))
      (read_then l (suc d) (suc d) d alt (Token t.ParenR ∷ Closed ∷ Unless t.BracketL ∷ []) p s (41 ∷ []) rest (a_tree a.0) _ a.2
      (read_token l (suc d) d (Closed ∷ Unless t.BracketL ∷ []) (past p s) kinds.ParenR t.ParenR (41 ∷ []) [] rest [] (paren_r rest) refl
      (read_closed l d d (Unless t.BracketL ∷ []) _ [] rest [] (read_unless l d d t.BracketL f.terminal [] _ [] rest [] (other behind_prim t.BracketL f.terminal refl f.may) f.starts (read_end l d _ rest))))),
)

closing_follows : (rest : List ℕ) → Follows behind_any (41 ∷ rest)
closing_follows rest = record { terminal = t.ParenR; starts = starts_token kinds.ParenR t.ParenR (41 ∷ []) rest (paren_r rest) refl; may = refl; ends = record { no_part = refl; no_bracket = refl } }

pub in_parentheses : (s : List ℕ) (T : Tree) (k : ℕ) → Spells alt behind_any s T k → Spells prim behind_prim (40 ∷ (s ++ 41 ∷ [])) T (k + 1)
in_parentheses s T k a = record {
  some = omega arith;
  front = refl;
  read = λ l d p rest h f.
      let g = group_read l d (past p (40 ∷ [])) s rest T f (a.read l (suc d) (past p (40 ∷ [])) (41 ∷ rest) (omega (arith, h)) (closing_follows rest)) in (
        g.0,
        g.1,
        read_alone l d d prim (Opening t.ParenL ∷ Part (n.Group sorts.Type) ∷ []) p (40 ∷ (s ++ 41 ∷ [])) rest _ (inr (inl refl))
            (read_opening l d d (Part (n.Group sorts.Type) ∷ []) p kinds.ParenL t.ParenL (40 ∷ []) (s ++ 41 ∷ []) rest _
            (paren_l ((s ++ 41 ∷ []) ++ rest) (ap (λ x. slice_index x 0 == 42) (append_assoc s (41 ∷ []) rest) ∙ front_kept s (41 ∷ rest) a.some a.front)) refl (omega (arith, h)) g.2),
      );
}

-- `()`
pub nothing : Spells prim behind_prim (40 ∷ 41 ∷ []) Empty 1
nothing = record {
  some = omega arith;
  front = refl;
  read = λ l d p rest h f. (
    placed.Empty_at p,
    refl,
    read_alone l d d prim (Opening t.ParenL ∷ Part (n.Group sorts.Type) ∷ []) p (40 ∷ 41 ∷ []) rest _ (inr (inl refl))
        (read_opening l d d (Part (n.Group sorts.Type) ∷ []) p kinds.ParenL t.ParenL (40 ∷ []) (41 ∷ []) rest (absent ∷ []) (paren_l (41 ∷ rest) refl) refl (omega (arith, h))
        (read_alone l (suc d) d (n.Group sorts.Type) (Token t.ParenR ∷ Closed ∷ Unless t.BracketL ∷ []) _ (41 ∷ []) rest _ (inl refl)
        (read_token l (suc d) d (Closed ∷ Unless t.BracketL ∷ []) _ kinds.ParenR t.ParenR (41 ∷ []) [] rest [] (paren_r rest) refl
        (read_closed l d d (Unless t.BracketL ∷ []) _ [] rest [] (read_unless l d d t.BracketL f.terminal [] _ [] rest [] (other behind_prim t.BracketL f.terminal refl f.may) f.starts (read_end l d _ rest)))))),
  );
}

-- ---- operators
pub no_operator : (s : List ℕ) (T : Tree) (k : ℕ) → Spells prim behind_prim s T k → Spells post behind_post s T k
no_operator s T k a = record {
  some = a.some;
  front = a.front;
  read = λ l d p rest h f.
      let r = a.read l d p rest h (to_prim rest f) in (
        r.0,
        r.1,
        read_alone l d d post (Part prim ∷ Part n.Operator ∷ []) p s rest (a_tree r.0 ∷ (absent ∷ [])) (inl refl)
            (same_bytes l d d (Part prim ∷ Part n.Operator ∷ []) p (s ++ []) s rest _ (append-nil s)
            (read_then l d d d prim (Part n.Operator ∷ []) p s [] rest (a_tree r.0) _ r.2
            (read_alone l d d n.Operator (Unless t.Star ∷ Unless t.Plus ∷ Unless t.Query ∷ []) (past p s) [] rest [] (inr (inr (inr (inl refl))))
            (read_unless l d d t.Star f.terminal _ _ [] rest [] (other behind_post t.Star f.terminal refl f.may) f.starts
            (read_unless l d d t.Plus f.terminal _ _ [] rest [] (other behind_post t.Plus f.terminal refl f.may) f.starts
            (read_unless l d d t.Query f.terminal _ _ [] rest [] (other behind_post t.Query f.terminal refl f.may) f.starts (read_end l d _ rest))))))),
      );
}

pub longer : (s r : List ℕ) → 0 < length s → 0 < length (s ++ r)
longer [] r h = absurd (omega (arith, h))
longer (c ∷ cs) r h = omega arith

-- what is read of a part and its operator is this type at a place
abbrev IsOperator : Terminal → List ℕ → (Tree → Tree) → Type 0
IsOperator mark x op = (V : PlacedTree) (p : Place) → (U : PlacedTree) × (unplaced U ≡ op (unplaced V)) × (value_of post (a_tree V ∷ (value_of n.Operator (token_of mark x p ∷ []) ∷ [])) ≡ a_tree U)

with_operator : (byte : ℕ) (kind : Kind) (mark : Terminal) (op : Tree → Tree) → ((rest : List ℕ) → IsToken kind (byte ∷ []) rest) → kind_terminal kind (byte ∷ []) ≡ mark → behind_prim mark ≡ true → ((rest : List ℕ) → EndsWord (byte ∷ rest)) →
    IsOneOf (Token mark ∷ []) (rules n.Operator) → IsOperator mark (byte ∷ []) op → (s : List ℕ) (T : Tree) (k : ℕ) → Spells prim behind_prim s T k → Spells post behind_post (s ++ byte ∷ []) (op T) k
with_operator byte kind mark op token is may ends one made s T k a = record {
  some = longer s (byte ∷ []) a.some;
  front = front_kept s (byte ∷ []) a.some a.front;
  read = λ l d p rest h f.
      let r = a.read l d p (byte ∷ rest) h (record { terminal = mark; starts = starts_token kind mark (byte ∷ []) rest (token rest) is; may = may; ends = ends rest }) in
      let m = made r.0 (past p s) in (
        m.0,
        m.1 ∙ ap op r.1,
        subst (λ (v : Value). Reads l d (Part post ∷ []) d p (s ++ byte ∷ []) rest (v ∷ [])) m.2
            (read_alone l d d post (Part prim ∷ Part n.Operator ∷ []) p (s ++ byte ∷ []) rest _ (inl refl)
            (read_then l d d d prim (Part n.Operator ∷ []) p s (byte ∷ []) rest (a_tree r.0) _ r.2
            (read_alone l d d n.Operator (Token mark ∷ []) (past p s) (byte ∷ []) rest _ one
            (read_token l d d [] (past p s) kind mark (byte ∷ []) [] rest [] (token rest) is (read_end l d _ rest))))),
      );
}

pub with_star : (s : List ℕ) (T : Tree) (k : ℕ) → Spells prim behind_prim s T k → Spells post behind_post (s ++ 42 ∷ []) (Star T) k
with_star = with_operator 42 kinds.Star t.Star Star star refl refl (λ rest. record { no_part = refl; no_bracket = refl }) (inl refl) (λ V p. (placed.Star_at (place_of V) V, refl, refl))

pub with_plus : (s : List ℕ) (T : Tree) (k : ℕ) → Spells prim behind_prim s T k → Spells post behind_post (s ++ 43 ∷ []) (Plus T) k
with_plus = with_operator 43 kinds.Plus t.Plus Plus plus refl refl (λ rest. record { no_part = refl; no_bracket = refl }) (inr (inl refl)) (λ V p. (placed.Plus_at (place_of V) V, refl, refl))

pub with_query : (s : List ℕ) (T : Tree) (k : ℕ) → Spells prim behind_prim s T k → Spells post behind_post (s ++ 63 ∷ []) (Opt T) k
with_query = with_operator 63 kinds.Query t.Query Opt query refl refl (λ rest. record { no_part = refl; no_bracket = refl }) (inr (inr (inl refl))) (λ V p. (placed.Opt_at (place_of V) V, refl, refl))

-- ---- lists of parts and of branches
cons_same : (T U : Tree) (Ts Us : List Tree) → T ≡ U → Ts ≡ Us → T ∷ Ts ≡ U ∷ Us
cons_same T U Ts Us e f = ap (λ x. x ∷ Ts) e ∙ ap (λ x. U ∷ x) f

pub one_part : (s : List ℕ) (T : Tree) (k : ℕ) → Spells post behind_post s T k → SpellsList post (n.MoreParts sorts.Type) behind_sequence s (T ∷ []) k
one_part s T k a = record {
  some = a.some;
  front = a.front;
  read = λ l d p rest h f.
      let r = a.read l d p rest h (to_post rest f) in (
        r.0,
        [],
        ap (λ x. x ∷ []) r.1,
        same_bytes l d d (Part post ∷ Part ((n.MoreParts sorts.Type)) ∷ []) p (s ++ []) s rest _ (append-nil s)
            (read_then l d d d post (Part ((n.MoreParts sorts.Type)) ∷ []) p s [] rest (a_tree r.0) _ r.2
            (read_alone l d d ((n.MoreParts sorts.Type)) (Unless t.Comma ∷ []) (past p s) [] rest [] (inr (inl refl))
            (read_unless l d d t.Comma f.terminal _ _ [] rest [] (other behind_sequence t.Comma f.terminal refl f.may) f.starts (read_end l d _ rest)))),
      );
}

pub more_part : (s r : List ℕ) (T : Tree) (Us : List Tree) (k m : ℕ) → Spells post behind_post s T k → SpellsList post (n.MoreParts sorts.Type) behind_sequence r Us m → SpellsList post (n.MoreParts sorts.Type) behind_sequence (s ++ 44 ∷ r) (T ∷ Us) (max k m)
more_part s r T Us k m a b = record {
  some = longer s (44 ∷ r) a.some;
  front = front_kept s (44 ∷ r) a.some a.front;
  read = λ l d p rest h f.
      let x = a.read l d p (44 ∷ (r ++ rest)) (omega (arith, h)) (record { terminal = t.Comma; starts = starts_token kinds.Comma t.Comma (44 ∷ []) (r ++ rest) (comma (r ++ rest)) refl; may = refl; ends = record { no_part = refl; no_bracket = refl } }) in
      let y = b.read l d (past (past p s) (44 ∷ [])) rest (omega (arith, h)) f in (
        x.0,
        y.0 ∷ y.1,
        cons_same (unplaced x.0) T (map unplaced (y.0 ∷ y.1)) Us x.1 y.2,
        read_then l d d d post (Part ((n.MoreParts sorts.Type)) ∷ []) p s (44 ∷ r) rest (a_tree x.0) _ x.2
            (read_alone l d d ((n.MoreParts sorts.Type)) (Token t.Comma ∷ Part post ∷ Part ((n.MoreParts sorts.Type)) ∷ []) (past p s) (44 ∷ r) rest _ (inl refl)
            (read_token l d d (Part post ∷ Part ((n.MoreParts sorts.Type)) ∷ []) (past p s) kinds.Comma t.Comma (44 ∷ []) r rest _ (comma (r ++ rest)) refl y.3)),
      );
}

pub one_branch : (s : List ℕ) (T : Tree) (k : ℕ) → Spells seq behind_sequence s T k → SpellsList seq (n.MoreBranches sorts.Type) behind_any s (T ∷ []) k
one_branch s T k a = record {
  some = a.some;
  front = a.front;
  read = λ l d p rest h f.
      let r = a.read l d p rest h (to_sequence rest f) in (
        r.0,
        [],
        ap (λ x. x ∷ []) r.1,
        same_bytes l d d (Part seq ∷ Part ((n.MoreBranches sorts.Type)) ∷ []) p (s ++ []) s rest _ (append-nil s)
            (read_then l d d d seq (Part ((n.MoreBranches sorts.Type)) ∷ []) p s [] rest (a_tree r.0) _ r.2
            (read_alone l d d ((n.MoreBranches sorts.Type)) (Unless t.Bar ∷ []) (past p s) [] rest [] (inr (inl refl))
            (read_unless l d d t.Bar f.terminal _ _ [] rest [] (other behind_any t.Bar f.terminal refl f.may) f.starts (read_end l d _ rest)))),
      );
}

pub more_branch : (s r : List ℕ) (T : Tree) (Us : List Tree) (k m : ℕ) → Spells seq behind_sequence s T k → SpellsList seq (n.MoreBranches sorts.Type) behind_any r Us m → SpellsList seq (n.MoreBranches sorts.Type) behind_any (s ++ 124 ∷ r) (T ∷ Us) (max k m)
more_branch s r T Us k m a b = record {
  some = longer s (124 ∷ r) a.some;
  front = front_kept s (124 ∷ r) a.some a.front;
  read = λ l d p rest h f.
      let x = a.read l d p (124 ∷ (r ++ rest)) (omega (arith, h)) (record { terminal = t.Bar; starts = starts_token kinds.Bar t.Bar (124 ∷ []) (r ++ rest) (bar (r ++ rest)) refl; may = refl; ends = record { no_part = refl; no_bracket = refl } }) in
      let y = b.read l d (past (past p s) (124 ∷ [])) rest (omega (arith, h)) f in (
        x.0,
        y.0 ∷ y.1,
        cons_same (unplaced x.0) T (map unplaced (y.0 ∷ y.1)) Us x.1 y.2,
        read_then l d d d seq (Part ((n.MoreBranches sorts.Type)) ∷ []) p s (124 ∷ r) rest (a_tree x.0) _ x.2
            (read_alone l d d ((n.MoreBranches sorts.Type)) (Token t.Bar ∷ Part seq ∷ Part ((n.MoreBranches sorts.Type)) ∷ []) (past p s) (124 ∷ r) rest _ (inl refl)
            (read_token l d d (Part seq ∷ Part ((n.MoreBranches sorts.Type)) ∷ []) (past p s) kinds.Bar t.Bar (124 ∷ []) r rest _ (bar (r ++ rest)) refl y.3)),
      );
}

abbrev pub IsSeqPart : Tree → Type 0
IsSeqPart T = (is_seq T ≡ false) × (is_empty T ≡ false)

abbrev pub IsAltPart : Tree → Type 0
IsAltPart T = is_alt T ≡ false

-- a part that stays what it is
alone : (V : PlacedTree) → IsSeqPart (unplaced V) → parts_of_seq V ≡ V ∷ []
alone (placed.Empty_at p) h = cc
alone (placed.Seq_at p T U) h = absurd (let z : true ≡ false = h.0 in cc)
alone V h = refl

alone_branch : (V : PlacedTree) → IsAltPart (unplaced V) → parts_of_alt V ≡ V ∷ []
alone_branch (placed.Alt_at p T U) h = absurd (let z : true ≡ false = h in cc)
alone_branch V h = refl

all_alone : (Vs : List PlacedTree) → AllByRecursion IsSeqPart (map unplaced Vs) → flat_map parts_of_seq Vs ≡ Vs
all_alone [] a = refl
all_alone (V ∷ Vs) a = ap (λ x. x ++ flat_map parts_of_seq Vs) (alone V a.0) ∙ ap (λ x. V ∷ x) (all_alone Vs a.1)

all_branches : (Vs : List PlacedTree) → AllByRecursion IsAltPart (map unplaced Vs) → flat_map parts_of_alt Vs ≡ Vs
all_branches [] a = refl
all_branches (V ∷ Vs) a = ap (λ x. x ++ flat_map parts_of_alt Vs) (alone_branch V a.0) ∙ ap (λ x. V ∷ x) (all_branches Vs a.1)

placed_seq-is : (p : Place) (V : PlacedTree) (Vs : List PlacedTree) → unplaced (placed_seq p (V ∷ Vs)) ≡ seq_of (map unplaced (V ∷ Vs))
placed_seq-is p V [] = refl
placed_seq-is p V (W ∷ Ws) = ap (Seq (unplaced V)) (placed_seq-is (place_of W) W Ws)

placed_alt-is : (p : Place) (V : PlacedTree) (Vs : List PlacedTree) → unplaced (placed_alt p (V ∷ Vs)) ≡ alt_of (map unplaced (V ∷ Vs))
placed_alt-is p V [] = refl
placed_alt-is p V (W ∷ Ws) = ap (Alt (unplaced V)) (placed_alt-is (place_of W) W Ws)

sequence_is : (V : PlacedTree) (Vs : List PlacedTree) → AllByRecursion IsSeqPart (map unplaced (V ∷ Vs)) → unplaced (sequence V Vs) ≡ seq_of (map unplaced (V ∷ Vs))
sequence_is V [] a = refl
sequence_is V (W ∷ Ws) a = ap (λ x. unplaced (merged_seq (place_of V) x)) (all_alone (V ∷ (W ∷ Ws)) a) ∙ placed_seq-is (place_of V) V (W ∷ Ws)

alternative_is : (V : PlacedTree) (Vs : List PlacedTree) → AllByRecursion IsAltPart (map unplaced (V ∷ Vs)) → unplaced (alternative V Vs) ≡ alt_of (map unplaced (V ∷ Vs))
alternative_is V [] a = refl
alternative_is V (W ∷ Ws) a = ap (λ x. unplaced (placed_alt (place_of V) x)) (all_branches (V ∷ (W ∷ Ws)) a) ∙ placed_alt-is (place_of V) V (W ∷ Ws)

pub as_sequence : (s : List ℕ) (T : Tree) (Ts : List Tree) (k : ℕ) → SpellsList post (n.MoreParts sorts.Type) behind_sequence s Ts k → seq_of Ts ≡ T → AllByRecursion IsSeqPart Ts → Spells seq behind_sequence s T k
as_sequence s T Ts k a e parts = record {
  some = a.some;
  front = a.front;
  read = λ l d p rest h f.
      let r = a.read l d p rest h f in (
        sequence r.0 r.1,
        sequence_is r.0 r.1 (subst (AllByRecursion IsSeqPart) (sym r.2) parts) ∙ ap seq_of r.2 ∙ e,
        read_alone l d d seq (Part post ∷ Part (n.MoreParts sorts.Type) ∷ []) p s rest _ (inl refl) r.3,
      );
}

pub as_alternative : (s : List ℕ) (T : Tree) (Ts : List Tree) (k : ℕ) → SpellsList seq (n.MoreBranches sorts.Type) behind_any s Ts k → alt_of Ts ≡ T → AllByRecursion IsAltPart Ts → Spells alt behind_any s T k
as_alternative s T Ts k a e parts = record {
  some = a.some;
  front = a.front;
  read = λ l d p rest h f.
      let r = a.read l d p rest h f in (
        alternative r.0 r.1,
        alternative_is r.0 r.1 (subst (AllByRecursion IsAltPart) (sym r.2) parts) ∙ ap alt_of r.2 ∙ e,
        read_alone l d d alt (Part seq ∷ Part (n.MoreBranches sorts.Type) ∷ []) p s rest _ (inl refl) r.3,
      );
}

-- the same for one that is no list of parts
pub one_sequence : (s : List ℕ) (T : Tree) (k : ℕ) → Spells post behind_post s T k → Spells seq behind_sequence s T k
one_sequence s T k a = record {
  some = a.some;
  front = a.front;
  read = λ l d p rest h f.
      let r = (one_part s T k a).read l d p rest h f in
      single l d p s rest T r.0 r.1 r.2 r.3;
}
  where
    single : (l d : ℕ) (p : Place) (s rest : List ℕ) (T : Tree) (V : PlacedTree) (Vs : List PlacedTree) → map unplaced (V ∷ Vs) ≡ T ∷ [] → Reads l d (Part post ∷ Part (n.MoreParts sorts.Type) ∷ []) d p s rest (a_tree V ∷ (trees Vs ∷ [])) → IsRead l d seq p s rest T
    single l d p s rest T V [] e m = (V, let f : unplaced V ≡ T = cc in f, read_alone l d d seq (Part post ∷ Part (n.MoreParts sorts.Type) ∷ []) p s rest _ (inl refl) m)
    single l d p s rest T V (W ∷ Ws) e m = absurd (cc)

pub one_alternative : (s : List ℕ) (T : Tree) (k : ℕ) → Spells seq behind_sequence s T k → Spells alt behind_any s T k
one_alternative s T k a = record {
  some = a.some;
  front = a.front;
  read = λ l d p rest h f.
      let r = (one_branch s T k a).read l d p rest h f in
      single l d p s rest T r.0 r.1 r.2 r.3;
}
  where
    single : (l d : ℕ) (p : Place) (s rest : List ℕ) (T : Tree) (V : PlacedTree) (Vs : List PlacedTree) → map unplaced (V ∷ Vs) ≡ T ∷ [] → Reads l d (Part seq ∷ Part (n.MoreBranches sorts.Type) ∷ []) d p s rest (a_tree V ∷ (trees Vs ∷ [])) → IsRead l d alt p s rest T
    single l d p s rest T V [] e m = (V, let f : unplaced V ≡ T = cc in f, read_alone l d d alt (Part seq ∷ Part (n.MoreBranches sorts.Type) ∷ []) p s rest _ (inl refl) m)
    single l d p s rest T V (W ∷ Ws) e m = absurd (cc)
