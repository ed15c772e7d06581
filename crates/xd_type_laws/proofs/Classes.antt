-- Words, texts and elements as primaries.
use Rattle.std.proofs.Common.{◌≡◌, ℕ, suc, ◌+◌, ◌-◌, ◌<◌, ◌≤◌, Bool, true, false, not, cond, List, [], ◌∷◌, ◌++◌, map, length, take, get_or, refl, ap, sym, subst, ◌∙◌, ◌⊎◌, inl, inr, arith, append_assoc, append-nil, length-append}
use Rattle.std.specs.Prelude.{◌==◌, ◌&&◌, slice_index, codes}
use Rattle.std.specs.List.{AllByRecursion}
use Rattle.std.specs.Str.{bytes_eq}
use Rattle.std.proofs.Math.Seq.{take-append_seam}
use Rattle.std.proofs.lemmas.Bool.{and_parts, or_parts}
use Rattle.std.proofs.lemmas.Bool.Decides.{nat_tests}
use Rattle.std.proofs.lemmas.Slice.Eq.{bytes_eq-Decides}
use Rattle.xd_base.specs.declared.Place.{Place}
use Rattle.xd_doc.specs.Word.{is_word, is_word_start, are_word_parts}
use Rattle.xd_doc.specs.Classes.{NameClass}
use Rattle.xd_doc.specs.ClassForms.{IsClass, IsTextClass}
use Rattle.xd_lex.specs.declared.Kind.TheVariants as kinds
use Rattle.xd_lex.specs.Tokens.{past}
use Rattle.xd_lex.proofs.Canonical.{tokens-quoted, tokens-label}
use Rattle.xd_lex.proofs.Escapes.{unescaped-escaped}
use Rattle.xd_lex.proofs.Symbols.{EndsWord, a_word, paren_l, paren_r, bracket_l, bracket_r, bar, tilde, caret}
use Rattle.xd_syntax.specs.Words.{has_word, string_word}
use Rattle.xd_syntax.specs.Keywords.{keywords, is_type_name}
use Rattle.xd_syntax.specs.Tree.{Tree, Empty, Text, Words, Name, Elem}
use Rattle.xd_syntax.specs.TypeText.{quoted_text, barred, labels_text, excepted_text}
use Rattle.xd_syntax.specs.TypeDepth.{list_depth}
use Rattle.xd_syntax.specs.Placed.{PlacedTree, unplaced, Text_at, Words_at, Name_at, Elem_at, Empty_at}
use Rattle.xd_syntax.proofs.Words.{bytes_eq-turned}
use Rattle.xd_grammar.specs.declared.grammar.Nonterminal.TheVariants as n
use Rattle.xd_grammar.specs.declared.grammar.Sort.TheVariants as sorts
use Rattle.xd_grammar.specs.declared.grammar.Symbol.TheVariants.{Token, Opening, Closed, Unless, Part}
use Rattle.xd_grammar.specs.declared.grammar.Terminal.{Terminal}
use Rattle.xd_grammar.specs.declared.grammar.Terminal.TheVariants as t
use Rattle.xd_doc.specs.Members.{IsOneOf}
use Rattle.xd_grammar.specs.Grammar.{rules}
use Rattle.xd_grammar.specs.Text.{word_terminal}
use Rattle.xd_parse_trees.specs.Merged.{class_of}
use Rattle.xd_parse_trees.specs.Values.{a_text as a_quoted, mark, a_tree, names, texts, labels, class, labelled, token_of, value_of, named_type}
use Rattle.xd_parse_trees.proofs.ByteOrder.{class_made}
use Rattle.xd_type_laws.proofs.RowsReadLemmas.{Reads, read_end, read_token, read_opening, read_closed, read_alone, read_then, read_unless, same_bytes, starts_token}
use Rattle.xd_type_laws.proofs.Levels.{Spells, prim, alt, behind_prim, behind_any}

-- ---- names
not_taken : (b : Bool) (j k : Terminal) → b ≡ false → cond b j k ≡ k
not_taken true j k e = cc
not_taken false j k e = refl

pub plain_word : (w : List ℕ) → has_word keywords w ≡ false → word_terminal w ≡ t.Word
plain_word w h =
    let a = or_parts (bytes_eq (codes "type") w) _ h in
    let b = or_parts (bytes_eq (codes "fun") w) _ a.1 in
    let c = or_parts (bytes_eq (codes "val") w) _ b.1 in
    let d = or_parts (bytes_eq (codes "as") w) _ c.1 in
    let e = or_parts (bytes_eq (codes "match") w) _ d.1 in
    let f = or_parts (bytes_eq (codes "with") w) _ e.1 in
    not_taken _ t.Type _ (bytes_eq-turned _ w a.0) ∙ not_taken _ t.Fun _ (bytes_eq-turned _ w b.0) ∙ not_taken _ t.Val _ (bytes_eq-turned _ w c.0)
    ∙ not_taken _ t.As _ (bytes_eq-turned _ w d.0) ∙ not_taken _ t.Match _ (bytes_eq-turned _ w e.0) ∙ not_taken _ t.With _ (bytes_eq-turned _ w f.0)

is_name : (a b : Bool) → (not a && not b) ≡ true → (a ≡ false) × (b ≡ false)
is_name true b e = cc
is_name false true e = cc
is_name false false e = (refl, refl)

word_front : (w : List ℕ) → is_word w ≡ true → (0 < length w) × ((get_or w 0 0 == 42) ≡ false)
word_front [] h = absurd (cc)
word_front (c ∷ cs) h = (omega arith, no_star c (and_parts (is_word_start c) (are_word_parts cs) h).0)
  where
    no_star : (c : ℕ) → is_word_start c ≡ true → (c == 42) ≡ false
    no_star c h = grind (arith, nat_tests)

word_read : (l d : ℕ) (p : Place) (w rest : List ℕ) → is_word w ≡ true → EndsWord rest → word_terminal w ≡ t.Word → Reads l d (Part prim ∷ []) d p w rest (a_tree (named_type w p) ∷ [])
word_read l d p w rest h e f =
    read_alone l d d prim (Token t.Word ∷ []) p w rest _ (inl refl)
    (same_bytes l d d (Token t.Word ∷ []) p (w ++ []) w rest _ (append-nil w)
    (read_token l d d [] p kinds.Word t.Word w [] rest [] (a_word w rest h e) f (read_end l d _ rest)))

pub a_name : (x : List ℕ) → is_word x ≡ true → is_type_name x ≡ true → Spells prim behind_prim x (Name x) 0
a_name x h i =
    let q = is_name (has_word keywords x) (bytes_eq string_word x) i in
    let f = word_front x h in
    let tree : (p : Place) → unplaced (named_type x p) ≡ Name x = λ p. ap (λ b. unplaced (cond b (Text_at p) (Name_at p x))) q.1 in
    record { some = f.0; front = f.1; read = λ l d p rest k fo. (named_type x p, tree p, word_read l d p x rest h fo.ends (plain_word x q.0)) }

pub all_texts_read : Spells prim behind_prim string_word Text 0
all_texts_read = record { some = omega arith; front = refl; read = λ l d p rest k fo. (Text_at p, refl, word_read l d p string_word rest refl fo.ends refl) }

-- ---- lists of labels, keywords among them
record IsAnyWord (k : Terminal) (w : List ℕ) : Type 0 where
  one : IsOneOf (Token k ∷ []) (rules n.AnyWord)
  value : (p : Place) → value_of n.AnyWord (token_of k w p ∷ []) ≡ names (w ∷ [])

keyword : (k : Terminal) (s w : List ℕ) → IsOneOf (Token k ∷ []) (rules n.AnyWord) → ((v : List ℕ) (p : Place) → value_of n.AnyWord (token_of k v p ∷ []) ≡ names (s ∷ [])) → bytes_eq w s ≡ true → IsAnyWord k w
keyword k s w one v e = let f : w ≡ s = (bytes_eq-Decides w s).0 e in record { one = one; value = λ p. v w p ∙ ap (λ x. names (x ∷ [])) (sym f) }

chosen : (b : Bool) (j k : Terminal) (w : List ℕ) → (b ≡ true → IsAnyWord j w) → IsAnyWord k w → IsAnyWord (cond b j k) w
chosen true j k w f g = f refl
chosen false j k w f g = g

any_word : (w : List ℕ) → IsAnyWord (word_terminal w) w
any_word w =
    chosen _ t.Type _ w (keyword t.Type (codes "type") w (inr (inl refl)) (λ v p. refl))
    (chosen _ t.Fun _ w (keyword t.Fun (codes "fun") w (inr (inr (inl refl))) (λ v p. refl))
    (chosen _ t.Val _ w (keyword t.Val (codes "val") w (inr (inr (inr (inl refl)))) (λ v p. refl))
    (chosen _ t.As _ w (keyword t.As (codes "as") w (inr (inr (inr (inr (inl refl))))) (λ v p. refl))
    (chosen _ t.Match _ w (keyword t.Match (codes "match") w (inr (inr (inr (inr (inr (inl refl)))))) (λ v p. refl))
    (chosen _ t.With t.Word w (keyword t.With (codes "with") w (inr (inr (inr (inr (inr (inr (inl refl))))))) (λ v p. refl))
    (record { one = inl refl; value = λ p. refl }))))))

any_word_read : (l d : ℕ) (p : Place) (w rest : List ℕ) → is_word w ≡ true → EndsWord rest → Reads l d (Part n.AnyWord ∷ []) d p w rest (names (w ∷ []) ∷ [])
any_word_read l d p w rest h e =
    let a = any_word w in
    subst (λ v. Reads l d (Part n.AnyWord ∷ []) d p w rest (v ∷ [])) (a.value p)
    (read_alone l d d n.AnyWord (Token (word_terminal w) ∷ []) p w rest _ a.one
    (same_bytes l d d (Token (word_terminal w) ∷ []) p (w ++ []) w rest _ (append-nil w)
    (read_token l d d [] p kinds.Word (word_terminal w) w [] rest [] (a_word w rest h e) refl (read_end l d _ rest))))

-- each after a bar
abbrev bars : List (List ℕ) → List ℕ
bars [] = []
bars (w ∷ ws) = 124 ∷ (w ++ bars ws)

barred_is : (w : List ℕ) (ws : List (List ℕ)) → barred (w ∷ ws) ≡ w ++ bars ws
barred_is w [] = sym (append-nil w)
barred_is w (v ∷ vs) = append_assoc w (124 ∷ []) (barred (v ∷ vs)) ∙ ap (λ r. w ++ 124 ∷ r) (barred_is v vs)

bars_end : (ws : List (List ℕ)) (rest : List ℕ) → EndsWord (bars ws ++ 41 ∷ rest)
bars_end [] rest = record { no_part = refl; no_bracket = refl }
bars_end (w ∷ ws) rest = record { no_part = refl; no_bracket = refl }

abbrev AreWords : List (List ℕ) → Type 0
AreWords ws = AllByRecursion (λ w. is_word w ≡ true) ws

more_names : (l d : ℕ) (p : Place) (ws : List (List ℕ)) (rest : List ℕ) → AreWords ws → Reads l d (Part n.MoreNames ∷ []) d p (bars ws) (41 ∷ rest) (names ws ∷ [])
more_names l d p [] rest a =
    read_alone l d d n.MoreNames (Unless t.Bar ∷ []) p [] (41 ∷ rest) [] (inr (inl refl))
    (read_unless l d d t.Bar t.ParenR [] p [] (41 ∷ rest) [] (λ e. cc) (starts_token kinds.ParenR t.ParenR (41 ∷ []) rest (paren_r rest) refl) (read_end l d p (41 ∷ rest)))
more_names l d p (w ∷ ws) rest a =
    read_alone l d d n.MoreNames (Token t.Bar ∷ Part n.AnyWord ∷ Part n.MoreNames ∷ []) p (124 ∷ (w ++ bars ws)) (41 ∷ rest) _ (inl refl)
    (read_token l d d (Part n.AnyWord ∷ Part n.MoreNames ∷ []) p kinds.Bar t.Bar (124 ∷ []) (w ++ bars ws) (41 ∷ rest) _ (bar ((w ++ bars ws) ++ 41 ∷ rest)) refl
    (read_then l d d d n.AnyWord (Part n.MoreNames ∷ []) (past p (124 ∷ [])) w (bars ws) (41 ∷ rest) _ _ (any_word_read l d (past p (124 ∷ [])) w (bars ws ++ 41 ∷ rest) a.0 (bars_end ws rest))
    (more_names l d (past (past p (124 ∷ [])) w) ws rest a.1)))

-- ---- lists of texts
text_value : (s : List ℕ) (p : Place) → token_of t.Text (quoted_text s) p ≡ a_quoted s p
text_value s p = ap (λ x. a_quoted x p) (unescaped-escaped s)

more_texts : (l d : ℕ) (p : Place) (ss : List (List ℕ)) (rest : List ℕ) → Reads l d (Part n.MoreTexts ∷ []) d p (bars (map quoted_text ss)) (41 ∷ rest) (texts ss ∷ [])
more_texts l d p [] rest =
    read_alone l d d n.MoreTexts (Unless t.Bar ∷ []) p [] (41 ∷ rest) [] (inr (inl refl))
    (read_unless l d d t.Bar t.ParenR [] p [] (41 ∷ rest) [] (λ e. cc) (starts_token kinds.ParenR t.ParenR (41 ∷ []) rest (paren_r rest) refl) (read_end l d p (41 ∷ rest)))
more_texts l d p (s ∷ ss) rest =
    let q = past p (124 ∷ []) in
    let b = bars (map quoted_text ss) in
    read_alone l d d n.MoreTexts (Token t.Bar ∷ Token t.Text ∷ Part n.MoreTexts ∷ []) p (124 ∷ (quoted_text s ++ b)) (41 ∷ rest) (mark t.Bar p ∷ (a_quoted s q ∷ (texts ss ∷ []))) (inl refl)
    (read_token l d d (Token t.Text ∷ Part n.MoreTexts ∷ []) p kinds.Bar t.Bar (124 ∷ []) (quoted_text s ++ b) (41 ∷ rest) (a_quoted s q ∷ (texts ss ∷ [])) (bar ((quoted_text s ++ b) ++ 41 ∷ rest)) refl
    (subst (λ v. Reads l d (Token t.Text ∷ Part n.MoreTexts ∷ []) d q (quoted_text s ++ b) (41 ∷ rest) (v ∷ (texts ss ∷ []))) (text_value s q)
    (read_token l d d (Part n.MoreTexts ∷ []) q kinds.Text t.Text (quoted_text s) b (41 ∷ rest) (texts ss ∷ []) (λ o. tokens-quoted o s (b ++ 41 ∷ rest)) refl
    (more_texts l d (past q (quoted_text s)) ss rest))))

-- ---- classes of texts
pub same_class : (c : NameClass) → IsTextClass c → class_of c.except c.names ≡ c
same_class c h = sym (class_made c c.names c.except h.sorted (λ l. refl) refl)

pub same_labels : (c : NameClass) → IsClass c → class_of c.except c.names ≡ c
same_labels c h = sym (class_made c c.names c.except h.sorted (λ l. refl) refl)

pub one_text : (s : List ℕ) (c : NameClass) → class_of false (s ∷ []) ≡ c → Spells prim behind_prim (quoted_text s) (Words c) 0
one_text s c e = record {
  some = omega arith;
  front = refl;
  read = λ l d p rest k f. (
    Words_at p (class_of false (s ∷ [])),
    ap Words e,
    read_alone l d d prim (Token t.Text ∷ []) p (quoted_text s) rest (a_quoted s p ∷ []) (inr (inr (inl refl)))
        (same_bytes l d d (Token t.Text ∷ []) p (quoted_text s ++ []) (quoted_text s) rest _ (append-nil (quoted_text s))
        (subst (λ v. Reads l d (Token t.Text ∷ []) d p (quoted_text s ++ []) rest (v ∷ [])) (text_value s p)
        (read_token l d d [] p kinds.Text t.Text (quoted_text s) [] rest [] (λ o. tokens-quoted o s rest) refl (read_end l d _ rest)))),
  );
}

-- after a `^`
pub but_one_text : (s : List ℕ) (c : NameClass) → class_of true (s ∷ []) ≡ c → Spells prim behind_prim (94 ∷ quoted_text s) (Words c) 0
but_one_text s c e = record {
  some = omega arith;
  front = refl;
  read = λ l d p rest k f.
      let q = past p (94 ∷ []) in (
        Words_at p (class_of true (s ∷ [])),
        ap Words e,
        read_alone l d d prim (Token t.Caret ∷ Part (n.Excepted sorts.Type) ∷ []) p (94 ∷ quoted_text s) rest (mark t.Caret p ∷ (texts (s ∷ []) ∷ [])) (inr (inr (inr (inl refl))))
            (read_token l d d (Part (n.Excepted sorts.Type) ∷ []) p kinds.Caret t.Caret (94 ∷ []) (quoted_text s) rest _ (caret (quoted_text s ++ rest)) refl
            (read_alone l d d (n.Excepted sorts.Type) (Token t.Text ∷ []) q (quoted_text s) rest (a_quoted s q ∷ []) (inl refl)
            (same_bytes l d d (Token t.Text ∷ []) q (quoted_text s ++ []) (quoted_text s) rest _ (append-nil (quoted_text s))
            (subst (λ v. Reads l d (Token t.Text ∷ []) d q (quoted_text s ++ []) rest (v ∷ [])) (text_value s q)
            (read_token l d d [] q kinds.Text t.Text (quoted_text s) [] rest [] (λ o. tokens-quoted o s rest) refl (read_end l d _ rest)))))),
      );
}

abbrev listed : List ℕ → List (List ℕ) → List ℕ
listed s ss = 40 ∷ (s ++ (bars ss ++ 41 ∷ []))

labels_text_is : (w : List ℕ) (ws : List (List ℕ)) → 0 < length ws → labels_text (w ∷ ws) ≡ listed w ws
labels_text_is w [] h = absurd (omega (arith, h))
labels_text_is w (v ∷ vs) h = ap (λ x. (40 ∷ x) ++ 41 ∷ []) (barred_is w (v ∷ vs)) ∙ ap (λ x. 40 ∷ x) (append_assoc w (bars (v ∷ vs)) (41 ∷ []))

pub but_texts : (s : List ℕ) (ss : List (List ℕ)) (c : NameClass) → class_of true (s ∷ ss) ≡ c → Spells prim behind_prim (94 ∷ listed (quoted_text s) (map quoted_text ss)) (Words c) 1
but_texts s ss c e = record {
  some = omega arith;
  front = refl;
  read = λ l d p rest k f.
      let q = past p (94 ∷ []) in
      let r = past q (40 ∷ []) in
      let b = bars (map quoted_text ss) in (
        Words_at p (class_of true (s ∷ ss)),
        ap Words e,
        read_alone l d d prim (Token t.Caret ∷ Part (n.Excepted sorts.Type) ∷ []) p (94 ∷ (40 ∷ (quoted_text s ++ (b ++ 41 ∷ [])))) rest (mark t.Caret p ∷ (texts (s ∷ ss) ∷ [])) (inr (inr (inr (inl refl))))
            (read_token l d d (Part (n.Excepted sorts.Type) ∷ []) p kinds.Caret t.Caret (94 ∷ []) (40 ∷ (quoted_text s ++ (b ++ 41 ∷ []))) rest _ (caret _) refl
            (read_alone l d d (n.Excepted sorts.Type) (Opening t.ParenL ∷ Part (n.ExceptedList sorts.Type) ∷ []) q (40 ∷ (quoted_text s ++ (b ++ 41 ∷ []))) rest (mark t.ParenL q ∷ (texts (s ∷ ss) ∷ [])) (inr (inr (inl refl)))
            (read_opening l d d (Part (n.ExceptedList sorts.Type) ∷ []) q kinds.ParenL t.ParenL (40 ∷ []) (quoted_text s ++ (b ++ 41 ∷ [])) rest _ (paren_l _ refl) refl (omega (arith, k))
            (read_alone l (suc d) d (n.ExceptedList sorts.Type) (Token t.Text ∷ Part n.MoreTexts ∷ Token t.ParenR ∷ Closed ∷ []) r (quoted_text s ++ (b ++ 41 ∷ [])) rest (a_quoted s r ∷ (texts ss ∷ (mark t.ParenR (past (past r (quoted_text s)) b) ∷ []))) (inl refl)
            (subst (λ v. Reads l (suc d) (Token t.Text ∷ Part n.MoreTexts ∷ Token t.ParenR ∷ Closed ∷ []) d r (quoted_text s ++ (b ++ 41 ∷ [])) rest (v ∷ (texts ss ∷ (mark t.ParenR (past (past r (quoted_text s)) b) ∷ [])))) (text_value s r)
            (read_token l (suc d) d (Part n.MoreTexts ∷ Token t.ParenR ∷ Closed ∷ []) r kinds.Text t.Text (quoted_text s) (b ++ 41 ∷ []) rest _ (λ o. tokens-quoted o s ((b ++ 41 ∷ []) ++ rest)) refl
            (read_then l (suc d) (suc d) d n.MoreTexts (Token t.ParenR ∷ Closed ∷ []) (past r (quoted_text s)) b (41 ∷ []) rest (texts ss) _ (more_texts l (suc d) (past r (quoted_text s)) ss rest)
            (read_token l (suc d) d (Closed ∷ []) _ kinds.ParenR t.ParenR (41 ∷ []) [] rest [] (paren_r rest) refl (read_closed l d d [] _ [] rest [] (read_end l d _ rest)))))))))),
      );
}

-- ---- the content of an element, with its closing bracket
pub record SpellsContent (s : List ℕ) (T : Tree) (k : ℕ) : Type 0 where
  pub read : (l d : ℕ) (p : Place) (rest : List ℕ) → k + d ≤ l → (U : PlacedTree) × (unplaced U ≡ T) × Reads l (suc d) (Part (n.Content sorts.Type) ∷ []) d p (s ++ 93 ∷ []) rest (a_tree U ∷ [])

pub no_content : SpellsContent [] Empty 1
no_content = record {
  read = λ l d p rest k. (
    Empty_at p,
    refl,
    read_alone l (suc d) d (n.Content sorts.Type) (Token t.BracketR ∷ Closed ∷ []) p (93 ∷ []) rest _ (inl refl)
        (read_token l (suc d) d (Closed ∷ []) p kinds.BracketR t.BracketR (93 ∷ []) [] rest [] (bracket_r rest) refl (read_closed l d d [] _ [] rest [] (read_end l d _ rest))),
  );
}

pub a_content : (s : List ℕ) (T : Tree) (k : ℕ) → Spells alt behind_any s T k → SpellsContent s T (k + 1)
a_content s T k a = record {
  read = λ l d p rest h.
      let r = a.read l (suc d) p (93 ∷ rest) (omega (arith, h)) (record { terminal = t.BracketR; starts = starts_token kinds.BracketR t.BracketR (93 ∷ []) rest (bracket_r rest) refl; may = refl; ends = record { no_part = refl; no_bracket = refl } }) in (
        r.0,
        r.1,
        read_alone l (suc d) d (n.Content sorts.Type) (Part alt ∷ Token t.BracketR ∷ Closed ∷ []) p (s ++ 93 ∷ []) rest _ (inr (inl refl))
            (read_then l (suc d) (suc d) d alt (Token t.BracketR ∷ Closed ∷ []) p s (93 ∷ []) rest (a_tree r.0) _ r.2
            (read_token l (suc d) d (Closed ∷ []) _ kinds.BracketR t.BracketR (93 ∷ []) [] rest [] (bracket_r rest) refl (read_closed l d d [] _ [] rest [] (read_end l d _ rest)))),
      );
}

-- ---- elements
taken : (w : List ℕ) → take (length (w ++ 91 ∷ []) - 1) (w ++ 91 ∷ []) ≡ w
taken w =
    let e : length (w ++ 91 ∷ []) - 1 ≡ length w = omega (arith, length-append w (91 ∷ [])) in
    ap (λ k. take k (w ++ 91 ∷ [])) e ∙ take-append_seam w (91 ∷ [])

elem_same : (c e : NameClass) (U : PlacedTree) (T : Tree) (p : Place) → c ≡ e → unplaced U ≡ T → unplaced (Elem_at p c U) ≡ Elem e T
elem_same c e U T p f g = ap (λ x. Elem x (unplaced U)) f ∙ ap (Elem e) g

front_word : (w r : List ℕ) → is_word w ≡ true → (0 < length (w ++ r)) × ((get_or (w ++ r) 0 0 == 42) ≡ false)
front_word [] r h = absurd (cc)
front_word (c ∷ cs) r h = (omega arith, (word_front (c ∷ cs) h).1)

label_elem : (w s : List ℕ) (c : NameClass) (T : Tree) (k : ℕ) → is_word w ≡ true → class_of false (w ∷ []) ≡ c → SpellsContent s T k → 0 < k → Spells prim behind_prim ((w ++ 91 ∷ []) ++ (s ++ 93 ∷ [])) (Elem c T) k
label_elem w s c T k h e a pos =
    let fr : ((w ++ 91 ∷ []) ++ (s ++ 93 ∷ [])) ≡ w ++ (91 ∷ (s ++ 93 ∷ [])) = append_assoc w (91 ∷ []) (s ++ 93 ∷ []) in
    let fw = front_word w (91 ∷ (s ++ 93 ∷ [])) h in
    record {
      some = subst (λ x. 0 < length x) (sym fr) fw.0;
      front = subst (λ x. (get_or x 0 0 == 42) ≡ false) (sym fr) fw.1;
      read = λ l d p rest h' f.
          let v = w ++ 91 ∷ [] in
          let r = a.read l d (past p v) rest h' in
          let C = class_of false (take (length v - 1) v ∷ []) in (
            Elem_at p C r.0,
            elem_same C c r.0 T p (ap (λ x. class_of false (x ∷ [])) (taken w) ∙ e) r.1,
            read_alone l d d prim (Part n.Class ∷ Part (n.Content sorts.Type) ∷ []) p (v ++ (s ++ 93 ∷ [])) rest (class p C ∷ (a_tree r.0 ∷ [])) (inr (inr (inr (inr (inl refl)))))
                (read_then l d (suc d) d n.Class (Part (n.Content sorts.Type) ∷ []) p v (s ++ 93 ∷ []) rest (class p C) (a_tree r.0 ∷ [])
                (read_alone l d (suc d) n.Class (Part n.Labels ∷ []) p v ((s ++ 93 ∷ []) ++ rest) (labels p (take (length v - 1) v ∷ []) ∷ []) (inr (inl refl))
                (read_alone l d (suc d) n.Labels (Opening t.Label ∷ []) p v ((s ++ 93 ∷ []) ++ rest) _ (inl refl)
                (same_bytes l d (suc d) (Opening t.Label ∷ []) p (v ++ []) v ((s ++ 93 ∷ []) ++ rest) _ (append-nil v)
                (read_opening l d (suc d) [] p kinds.Label t.Label v [] ((s ++ 93 ∷ []) ++ rest) [] (λ o. tokens-label o w ((s ++ 93 ∷ []) ++ rest) h) refl (omega (arith, h', pos)) (read_end l (suc d) _ _))))) r.2),
          );
    }

names_read : (l d : ℕ) (p : Place) (w : List ℕ) (ws : List (List ℕ)) (rest : List ℕ) → d < l → AreWords (w ∷ ws) → Reads l d (Part n.Names ∷ []) d p (listed w ws) rest (labels p (w ∷ ws) ∷ [])
names_read l d p w ws rest h a =
    let q = past p (40 ∷ []) in
    let z : (slice_index ((w ++ (bars ws ++ 41 ∷ [])) ++ rest) 0 == 42) ≡ false = ap (λ x. slice_index x 0 == 42) (append_assoc w (bars ws ++ 41 ∷ []) rest) ∙ (front_word w ((bars ws ++ 41 ∷ []) ++ rest) a.0).1 in
    read_alone l d d n.Names (Opening t.ParenL ∷ Part n.AnyWord ∷ Part n.MoreNames ∷ Token t.ParenR ∷ Closed ∷ []) p (listed w ws) rest _ (inl refl)
    (read_opening l d d (Part n.AnyWord ∷ Part n.MoreNames ∷ Token t.ParenR ∷ Closed ∷ []) p kinds.ParenL t.ParenL (40 ∷ []) (w ++ (bars ws ++ 41 ∷ [])) rest _ (paren_l _ z) refl h
    (read_then l (suc d) (suc d) d n.AnyWord (Part n.MoreNames ∷ Token t.ParenR ∷ Closed ∷ []) q w (bars ws ++ 41 ∷ []) rest (names (w ∷ [])) _
    (any_word_read l (suc d) q w ((bars ws ++ 41 ∷ []) ++ rest) a.0 (subst EndsWord (sym (append_assoc (bars ws) (41 ∷ []) rest)) (bars_end ws rest)))
    (read_then l (suc d) (suc d) d n.MoreNames (Token t.ParenR ∷ Closed ∷ []) (past q w) (bars ws) (41 ∷ []) rest (names ws) _ (more_names l (suc d) (past q w) ws rest a.1)
    (read_token l (suc d) d (Closed ∷ []) _ kinds.ParenR t.ParenR (41 ∷ []) [] rest [] (paren_r rest) refl (read_closed l d d [] _ [] rest [] (read_end l d _ rest))))))

labels_elem : (w : List ℕ) (ws : List (List ℕ)) (s : List ℕ) (c : NameClass) (T : Tree) (k : ℕ) → AreWords (w ∷ ws) → class_of false (w ∷ ws) ≡ c → SpellsContent s T k → 0 < k → Spells prim behind_prim ((listed w ws ++ 91 ∷ []) ++ (s ++ 93 ∷ [])) (Elem c T) k
labels_elem w ws s c T k ok e a pos = record {
  some = omega arith;
  front = refl;
  read = λ l d p rest h f.
      let v = listed w ws in
      let r = a.read l d (past p (v ++ 91 ∷ [])) rest h in
      let C = class_of false (w ∷ ws) in
      let back = (s ++ 93 ∷ []) ++ rest in (
        Elem_at p C r.0,
        elem_same C c r.0 T p e r.1,
        read_alone l d d prim (Part n.Class ∷ Part (n.Content sorts.Type) ∷ []) p ((v ++ 91 ∷ []) ++ (s ++ 93 ∷ [])) rest (class p C ∷ (a_tree r.0 ∷ [])) (inr (inr (inr (inr (inl refl)))))
            (read_then l d (suc d) d n.Class (Part (n.Content sorts.Type) ∷ []) p (v ++ 91 ∷ []) (s ++ 93 ∷ []) rest (class p C) (a_tree r.0 ∷ [])
            (read_alone l d (suc d) n.Class (Part n.Labels ∷ []) p (v ++ 91 ∷ []) back (labels p (w ∷ ws) ∷ []) (inr (inl refl))
            (read_alone l d (suc d) n.Labels (Part n.Names ∷ Opening t.BracketL ∷ []) p (v ++ 91 ∷ []) back _ (inr (inl refl))
            (read_then l d d (suc d) n.Names (Opening t.BracketL ∷ []) p v (91 ∷ []) back (labels p (w ∷ ws)) _ (names_read l d p w ws (91 ∷ back) (omega (arith, h, pos)) ok)
            (read_opening l d (suc d) [] _ kinds.BracketL t.BracketL (91 ∷ []) [] back [] (bracket_l back) refl (omega (arith, h, pos)) (read_end l (suc d) _ back))))) r.2),
      );
}

all_elem : (s : List ℕ) (c : NameClass) (T : Tree) (k : ℕ) → class_of true [] ≡ c → SpellsContent s T k → 0 < k → Spells prim behind_prim ((126 ∷ 91 ∷ []) ++ (s ++ 93 ∷ [])) (Elem c T) k
all_elem s c T k e a pos = record {
  some = omega arith;
  front = refl;
  read = λ l d p rest h f.
      let r = a.read l d (past p (126 ∷ 91 ∷ [])) rest h in
      let C = class_of true [] in
      let back = (s ++ 93 ∷ []) ++ rest in (
        Elem_at p C r.0,
        elem_same C c r.0 T p e r.1,
        read_alone l d d prim (Part n.Class ∷ Part (n.Content sorts.Type) ∷ []) p ((126 ∷ 91 ∷ []) ++ (s ++ 93 ∷ [])) rest (class p C ∷ (a_tree r.0 ∷ [])) (inr (inr (inr (inr (inl refl)))))
            (read_then l d (suc d) d n.Class (Part (n.Content sorts.Type) ∷ []) p (126 ∷ 91 ∷ []) (s ++ 93 ∷ []) rest (class p C) (a_tree r.0 ∷ [])
            (read_alone l d (suc d) n.Class (Token t.Tilde ∷ Opening t.BracketL ∷ []) p (126 ∷ 91 ∷ []) back _ (inl refl)
            (read_token l d (suc d) (Opening t.BracketL ∷ []) p kinds.Tilde t.Tilde (126 ∷ []) (91 ∷ []) back _ (tilde (91 ∷ back)) refl
            (read_opening l d (suc d) [] _ kinds.BracketL t.BracketL (91 ∷ []) [] back [] (bracket_l back) refl (omega (arith, h, pos)) (read_end l (suc d) _ back)))) r.2),
      );
}

but_label_elem : (w s : List ℕ) (c : NameClass) (T : Tree) (k : ℕ) → is_word w ≡ true → class_of true (w ∷ []) ≡ c → SpellsContent s T k → 0 < k → Spells prim behind_prim (94 ∷ ((w ++ 91 ∷ []) ++ (s ++ 93 ∷ []))) (Elem c T) k
but_label_elem w s c T k ok e a pos = record {
  some = omega arith;
  front = refl;
  read = λ l d p rest h f.
      let v = w ++ 91 ∷ [] in
      let q = past p (94 ∷ []) in
      let r = a.read l d (past q v) rest h in
      let ws = take (length v - 1) v ∷ [] in
      let C = class_of true ws in (
        Elem_at p C r.0,
        elem_same C c r.0 T p (ap (λ x. class_of true (x ∷ [])) (taken w) ∙ e) r.1,
        read_alone l d d prim (Token t.Caret ∷ Part (n.Excepted sorts.Type) ∷ []) p (94 ∷ (v ++ (s ++ 93 ∷ []))) rest (mark t.Caret p ∷ (labelled ws r.0 ∷ [])) (inr (inr (inr (inl refl))))
            (read_token l d d (Part (n.Excepted sorts.Type) ∷ []) p kinds.Caret t.Caret (94 ∷ []) (v ++ (s ++ 93 ∷ [])) rest _ (caret _) refl
            (read_alone l d d (n.Excepted sorts.Type) (Opening t.Label ∷ Part (n.Content sorts.Type) ∷ []) q (v ++ (s ++ 93 ∷ [])) rest _ (inr (inl refl))
            (read_opening l d d (Part (n.Content sorts.Type) ∷ []) q kinds.Label t.Label v (s ++ 93 ∷ []) rest _ (λ o. tokens-label o w ((s ++ 93 ∷ []) ++ rest) ok) refl (omega (arith, h, pos)) r.2))),
      );
}

but_labels_elem : (w : List ℕ) (ws : List (List ℕ)) (s : List ℕ) (c : NameClass) (T : Tree) (k : ℕ) → AreWords (w ∷ ws) → class_of true (w ∷ ws) ≡ c → SpellsContent s T k → 0 < k →
    Spells prim behind_prim (94 ∷ (40 ∷ (w ++ (bars ws ++ (41 ∷ (91 ∷ (s ++ 93 ∷ []))))))) (Elem c T) k
but_labels_elem w ws s c T k ok e a pos = record {
  some = omega arith;
  front = refl;
  read = λ l d p rest h f.
      let q = past p (94 ∷ []) in
      let o = past q (40 ∷ []) in
      let u = past (past o w) (bars ws) in
      let b = s ++ 93 ∷ [] in
      let r = a.read l d (past (past u (41 ∷ [])) (91 ∷ [])) rest h in
      let C = class_of true (w ∷ ws) in
      let z : (slice_index ((w ++ (bars ws ++ (41 ∷ (91 ∷ b)))) ++ rest) 0 == 42) ≡ false = ap (λ x. slice_index x 0 == 42) (append_assoc w (bars ws ++ (41 ∷ (91 ∷ b))) rest) ∙ (front_word w ((bars ws ++ (41 ∷ (91 ∷ b))) ++ rest) ok.0).1 in (
        Elem_at p C r.0,
        elem_same C c r.0 T p e r.1,
        read_alone l d d prim (Token t.Caret ∷ Part (n.Excepted sorts.Type) ∷ []) p (94 ∷ (40 ∷ (w ++ (bars ws ++ (41 ∷ (91 ∷ b)))))) rest (mark t.Caret p ∷ (labelled (w ∷ ws) r.0 ∷ [])) (inr (inr (inr (inl refl))))
            (read_token l d d (Part (n.Excepted sorts.Type) ∷ []) p kinds.Caret t.Caret (94 ∷ []) (40 ∷ (w ++ (bars ws ++ (41 ∷ (91 ∷ b))))) rest _ (caret _) refl
            (read_alone l d d (n.Excepted sorts.Type) (Opening t.ParenL ∷ Part (n.ExceptedList sorts.Type) ∷ []) q (40 ∷ (w ++ (bars ws ++ (41 ∷ (91 ∷ b))))) rest (mark t.ParenL q ∷ (labelled (w ∷ ws) r.0 ∷ [])) (inr (inr (inl refl)))
            (read_opening l d d (Part (n.ExceptedList sorts.Type) ∷ []) q kinds.ParenL t.ParenL (40 ∷ []) (w ++ (bars ws ++ (41 ∷ (91 ∷ b)))) rest _ (paren_l _ z) refl (omega (arith, h, pos))
            (read_alone l (suc d) d (n.ExceptedList sorts.Type) (Part n.AnyWord ∷ Part n.MoreNames ∷ Token t.ParenR ∷ Closed ∷ Opening t.BracketL ∷ Part (n.Content sorts.Type) ∷ []) o (w ++ (bars ws ++ (41 ∷ (91 ∷ b)))) rest
            (names (w ∷ []) ∷ (names ws ∷ (mark t.ParenR u ∷ (mark t.BracketL (past u (41 ∷ [])) ∷ (a_tree r.0 ∷ []))))) (inr (inl refl))
            (read_then l (suc d) (suc d) d n.AnyWord (Part n.MoreNames ∷ Token t.ParenR ∷ Closed ∷ Opening t.BracketL ∷ Part (n.Content sorts.Type) ∷ []) o w (bars ws ++ (41 ∷ (91 ∷ b))) rest (names (w ∷ [])) _
            (any_word_read l (suc d) o w ((bars ws ++ (41 ∷ (91 ∷ b))) ++ rest) ok.0 (subst EndsWord (sym (append_assoc (bars ws) (41 ∷ (91 ∷ b)) rest)) (bars_end ws (91 ∷ (b ++ rest)))))
            (read_then l (suc d) (suc d) d n.MoreNames (Token t.ParenR ∷ Closed ∷ Opening t.BracketL ∷ Part (n.Content sorts.Type) ∷ []) (past o w) (bars ws) (41 ∷ (91 ∷ b)) rest (names ws) _ (more_names l (suc d) (past o w) ws (91 ∷ (b ++ rest)) ok.1)
            (read_token l (suc d) d (Closed ∷ Opening t.BracketL ∷ Part (n.Content sorts.Type) ∷ []) u kinds.ParenR t.ParenR (41 ∷ []) (91 ∷ b) rest _ (paren_r (91 ∷ (b ++ rest))) refl
            (read_closed l d d (Opening t.BracketL ∷ Part (n.Content sorts.Type) ∷ []) (past u (41 ∷ [])) (91 ∷ b) rest _
            (read_opening l d d (Part (n.Content sorts.Type) ∷ []) (past u (41 ∷ [])) kinds.BracketL t.BracketL (91 ∷ []) b rest _ (bracket_l (b ++ rest)) refl (omega (arith, h, pos)) r.2))))))))),
      );
}

-- the bytes written otherwise
pub respelled : (s r : List ℕ) (T : Tree) (k : ℕ) → s ≡ r → Spells prim behind_prim s T k → Spells prim behind_prim r T k
respelled s r T k e a = subst (λ x. Spells prim behind_prim x T k) e a

-- an element of any class
pub element : (b : Bool) (ns : List (List ℕ)) (s : List ℕ) (c : NameClass) (T : Tree) (k : ℕ) → class_of b ns ≡ c → AreWords ns → (0 < length ns) ⊎ (b ≡ true) → SpellsContent s T k → 0 < k →
    Spells prim behind_prim (cond b (excepted_text ns) (labels_text ns) ++ codes "[" ++ s ++ codes "]") (Elem c T) k
element false [] s c T k e ok (inl h) a pos = absurd (omega (arith, h))
element false [] s c T k e ok (inr h) a pos = absurd (cc)
element false (w ∷ []) s c T k e ok h a pos = respelled _ _ (Elem c T) k (sym (append_assoc (w ++ 91 ∷ []) s (93 ∷ []))) (label_elem w s c T k ok.0 e a pos)
element false (w ∷ (v ∷ vs)) s c T k e ok h a pos =
    respelled _ _ (Elem c T) k (sym (append_assoc (listed w (v ∷ vs) ++ 91 ∷ []) s (93 ∷ [])) ∙ ap (λ x. ((x ++ 91 ∷ []) ++ s) ++ 93 ∷ []) (sym (labels_text_is w (v ∷ vs) (omega arith)))) (labels_elem w (v ∷ vs) s c T k ok e a pos)
element true [] s c T k e ok h a pos = respelled _ _ (Elem c T) k (sym (append_assoc (126 ∷ 91 ∷ []) s (93 ∷ []))) (all_elem s c T k e a pos)
element true (w ∷ []) s c T k e ok h a pos = respelled _ _ (Elem c T) k (ap (λ x. 94 ∷ x) (sym (append_assoc (w ++ 91 ∷ []) s (93 ∷ [])))) (but_label_elem w s c T k ok.0 e a pos)
element true (w ∷ (v ∷ vs)) s c T k e ok h a pos = respelled _ _ (Elem c T) k (shape w (v ∷ vs) (omega arith)) (but_labels_elem w (v ∷ vs) s c T k ok e a pos)
  where
    shape : (w : List ℕ) (ws : List (List ℕ)) → 0 < length ws → 94 ∷ (40 ∷ (w ++ (bars ws ++ (41 ∷ (91 ∷ (s ++ 93 ∷ [])))))) ≡ (((94 ∷ labels_text (w ∷ ws)) ++ 91 ∷ []) ++ s) ++ 93 ∷ []
    shape w ws h =
        let e : (((w ++ (bars ws ++ 41 ∷ [])) ++ 91 ∷ []) ++ s) ++ 93 ∷ [] ≡ w ++ (bars ws ++ (41 ∷ (91 ∷ (s ++ 93 ∷ [])))) = simp append_assoc in
        sym (ap (λ x. (((94 ∷ x) ++ 91 ∷ []) ++ s) ++ 93 ∷ []) (labels_text_is w ws h) ∙ ap (λ x. 94 ∷ (40 ∷ x)) e)

-- ---- any class of texts
pub words_spelled : (b : Bool) (ns : List (List ℕ)) (c : NameClass) → class_of b ns ≡ c → (1 ≤ length ns) × ((b ≡ true) ⊎ (length ns ≡ 1)) → Spells prim behind_prim (cond b (codes "^") [] ++ labels_text (map quoted_text ns)) (Words c) (list_depth ns)
words_spelled b [] c e (h, k) = absurd (omega (arith, h))
words_spelled false (s ∷ []) c e h = one_text s c e
words_spelled false (s ∷ (t ∷ ts)) c e (h, inl k) = absurd (cc)
words_spelled false (s ∷ (t ∷ ts)) c e (h, inr k) = absurd (omega (arith, k))
words_spelled true (s ∷ []) c e h = but_one_text s c e
words_spelled true (s ∷ (t ∷ ts)) c e h = respelled _ _ (Words c) 1 (ap (λ x. 94 ∷ x) (sym (labels_text_is (quoted_text s) (map quoted_text (t ∷ ts)) (omega arith)))) (but_texts s (t ∷ ts) c e)
