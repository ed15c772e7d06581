-- Patterns that are compiled together, by their numbers: their states, their variables, and what
-- these may be.
use Rattle.std.proofs.Common.{◌≡◌, ◌↔◌, inl, inr, ℕ, zero, suc, ◌<◌, nat_lt, Bool, true, false, not, ◌&&◌, ◌||◌, List, [], ◌∷◌, ◌++◌, map, length, get_or, take, Option, Some, None, arith, refl, ap, sym, subst, ◌∙◌}
use Rattle.std.specs.List.{AllByRecursion, slice_get}
use Rattle.std.specs.Option.{IfSome}
use Rattle.std.specs.Str.{bytes_eq}
use Rattle.std.proofs.lemmas.Bool.Decides.{nat_tests}
use Rattle.std.proofs.lemmas.Bool.{false_from_ne_true, or_parts, or_from}
use Rattle.xd_doc.specs.Document.{Document, is_proper}
use Rattle.xd_doc.proofs.Lists.{last_at, all_get, all_take}
use Rattle.xd_doc.specs.Runs.{held, IsFree}
use Rattle.xd_doc.specs.Members.{IsOneOf}
use Rattle.xd_auto.specs.declared.auto.State.{State}
use Rattle.xd_auto.specs.Automaton.{Automaton, Extends, IsClosed, IsState, KeepsAccepting, accepts}
use Rattle.xd_auto.proofs.RunLaw.{runs_law}
use Rattle.xd_syntax.specs.Words.{has_word}
use Rattle.xd_syntax.specs.Tree.{Definitions, Tree}
use Rattle.xd_syntax.specs.Placed.{PlacedTree, unplaced}
use Rattle.xd_syntax.specs.Table.{Row}
use Rattle.xd_syntax.specs.Patterns.{pattern_tree}
use Rattle.xd_syntax.specs.declared.patterns.PatternId.{PatternId}
use Rattle.xd_syntax.specs.declared.types.TypeId.{TypeId}
use Rattle.xd_syntax.specs.May.{Allowance, IsLive, MayBind, NoneTakes}
use Rattle.xd_syntax.specs.Ways.{Takes}
use Rattle.xd_syntax.proofs.PlacedTrees.{unplaced_at}
use Rattle.xd_boole.specs.Meaning.{any_accepts}
use Rattle.xd_syntax.proofs.Words.{got_among}
use Rattle.xd_meaning.specs.Bindings.{variables_of}
use Rattle.xd_meaning.specs.KeptFaults.{AllPaired}
use Rattle.xd_laws.proofs.Unfoldings.{same_word_eq}
use Rattle.xd_auto.specs.declared.kind.MoveKind.TheVariants as M
use Rattle.xd_auto.specs.Traces.{KeepsTogether, Owned}
use Rattle.xd_bind.specs.declared.tracks.Given.{Given}
use Rattle.xd_auto.proofs.SameMoves.{SameMoves, same_back, together_same, trace_same}
use Rattle.xd_given.specs.Given.{AreGivensFor, IsGivenFor, IsSharedAlone}
use Rattle.xd_given.specs.Owning.{GivesAlike, IsWhole, LeavesOutAlike, owns_first}
use Rattle.xd_points.specs.Tables.{takes_alone}
use Rattle.xd_continuations.proofs.LeadsToLemmas.{among_has}
use Rattle.xd_patterns.specs.CompiledProgram.{AcceptsType, AreWithin, IsPatternState, marking_of_program, pattern_states, pattern_variables, words_of_program}
use Rattle.xd_patterns.specs.CompiledState.{CompiledStatesStay, IsCompiledState}
use Rattle.xd_patterns.specs.Marked.{Marking, marks_at, moves_of}
use Rattle.xd_patterns.specs.declared.compiled.CompiledProgram.{CompiledProgram}
use Rattle.xd_patterns.proofs.VariableLemmas.{variables_have}
use Rattle.xd_clauses.specs.Clauses.{Accepted, AreGivensOf, AreMayGivens, IsGivenOf}
use Rattle.xd_clauses.specs.Cases.{placed_pattern, placed_patterns}
use Rattle.xd_clauses.specs.Compiled.{ArePatterns, AreRunsGivens, IsNumbered, LeavesOut, RunsGive, state_of, variables_at, word_moves}
use Rattle.xd_clauses.specs.declared.compiled.CompiledPatterns.{CompiledPatterns}
use Rattle.xd_clauses.proofs.Givens.{got_word, same_words}
use Rattle.xd_clauses.proofs.CompiledTellLaw.{keeps_together, tells}
use Rattle.xd_clauses.proofs.Leaving.{and_tells}

-- ---- items at a place

-- what goes with the item at a place
pub paired_at : {A B : Type 0} (R : A → B → Type 0) (xs : List A) (ys : List B) (n : ℕ) (x : A) (d : B) → AllPaired R xs ys → slice_get xs n ≡ Some x → (n < length ys) × R x (get_or ys n d)
paired_at R [] ys n x d h e = cc
paired_at R (z ∷ xs) [] n x d h e = absurd h
paired_at R (z ∷ xs) (y ∷ ys) zero x d h e = (omega arith, (let q : z ≡ x = cc in subst (λ w. R w y) q h.0))
paired_at R (z ∷ xs) (y ∷ ys) (suc n) x d h e = let r = paired_at R xs ys n x d h.1 e in let lt = r.0 in (omega arith, r.1)

got_map : {A B : Type 0} (f : A → B) (xs : List A) (n : ℕ) (x : A) (d : B) → slice_get xs n ≡ Some x → get_or (map f xs) n d ≡ f x
got_map f [] n x d e = cc
got_map f (z ∷ xs) zero x d e = let q : z ≡ x = cc in ap f q
got_map f (z ∷ xs) (suc n) x d e = got_map f xs n x d e

within_map : {A B : Type 0} (f : A → B) (xs : List A) (n : ℕ) (x : A) → slice_get xs n ≡ Some x → n < length (map f xs)
within_map f [] n x e = cc
within_map f (z ∷ xs) zero x e = omega arith
within_map f (z ∷ xs) (suc n) x e = let h = within_map f xs n x e in omega arith

-- ---- words among others

record StandsAmong (ws : List (List ℕ)) (w : List ℕ) : Type 0 where
  pub place : ℕ
  pub below : place < length ws
  pub is : get_or ws place [] ≡ w

stands_among : (ws : List (List ℕ)) (w : List ℕ) → has_word ws w ≡ true → StandsAmong ws w
stands_among [] w e = cc
stands_among (x ∷ ws) w e = go (bytes_eq x w) refl (λ h. stands_among ws w h)
  where
    go : (b : Bool) → bytes_eq x w ≡ b → (has_word ws w ≡ true → StandsAmong ws w) → StandsAmong (x ∷ ws) w
    go true q f = record { place = 0; below = omega arith; is = same_word_eq x w q }
    go false q f =
        let s = f (sym (ap (λ b. b || has_word ws w) q) ∙ e) in
        let lt = s.below in record { place = suc s.place; below = omega arith; is = s.is }

among_got : (vs : List (List ℕ)) (x : ℕ) → x < length vs → IsOneOf (get_or vs x []) vs
among_got [] x h = absurd (omega arith)
among_got (v ∷ vs) zero h = inl refl
among_got (v ∷ vs) (suc x) h = inr (among_got vs x (omega arith))

-- ---- a variable has by its number the moves that it has by its word

tested : (x n : ℕ) (b : Bool) → x < n → (nat_lt x n && b) ≡ b
tested x n b h = let t : nat_lt x n ≡ true = grind (arith, nat_tests) in ap (λ v. v && b) t

pub word_same : (m : CompiledProgram) (ws : List (List ℕ)) (x : ℕ) → x < length ws → SameMoves (word_moves m ws x) (moves_of (marking_of_program m) (get_or ws x []))
word_same m ws x h = record {
  text = λ s n. tested x (length ws) (has_word (marks_at (marking_of_program m s) M.Text n) (get_or ws x [])) h;
  element = λ s n. tested x (length ws) (has_word (marks_at (marking_of_program m s) M.Label n) (get_or ws x [])) h;
}

alike_same : (a : Automaton) (b c : Owned) → SameMoves b c → (s : State) → GivesAlike a b s → GivesAlike a c s
alike_same a b c h s g =
    let first : owns_first b s ≡ owns_first c s = ap (λ v. v || b.text s 0) (h.element s 0) ∙ ap (λ v. c.element s 0 || v) (h.text s 0) in
    record {
      all = λ e d run acc. subst IsWhole (trace_same a b c h s run) (g.all (first ∙ e) d run acc);
      none = λ e d run acc. subst IsFree (trace_same a b c h s run) (g.none (first ∙ e) d run acc);
    }

-- states that may be left out give the variables of a pattern nothing, or all that they take
leaves_out : (m : CompiledPatterns) (vs : List (List ℕ)) → AreWithin (words_of_program m.compiled) vs → LeavesOut m → (x : ℕ) → x < length vs → LeavesOutAlike m.states (word_moves m.compiled vs x)
leaves_out m vs within out x h = λ s e.
    let a = m.states.auto in
    let ws = words_of_program m.compiled in
    let k = marking_of_program m.compiled in
    let w = get_or vs x [] in
    let at = stands_among ws w (within w (among_has vs w (among_got vs x h))) in
    alike_same a (moves_of k w) (word_moves m.compiled vs x) (same_back (word_moves m.compiled vs x) (moves_of k w) (word_same m.compiled vs x h)) s
    (subst (λ v. GivesAlike a (moves_of k v) s) at.is
    (alike_same a (word_moves m.compiled ws at.place) (moves_of k (get_or ws at.place [])) (word_same m.compiled ws at.place at.below) s (out at.place at.below s e)))

-- ---- states of patterns and types in an automaton that extends

pub pattern_stays : CompiledStatesStay → (E : Definitions) (rows : List Row) (a b : Automaton) (k : Marking) → IsClosed a → Extends a b → (id : PatternId) (s : State) → IsPatternState E rows a k id s → IsPatternState E rows b k id s
pattern_stays stay E rows a b k closed grows id s h = stay a b closed grows E (pattern_tree rows id) k s h

pub type_stays : (E : Definitions) (rows : List Row) (a b : Automaton) → Extends a b → KeepsAccepting a b → (id : TypeId) (s : State) → AcceptsType E rows a id s → AcceptsType E rows b id s
type_stays E rows a b grows keeps id s h = record {
  belongs = grows.states s h.belongs;
  accepts = λ d. (λ e. (h.accepts d).0 (sym (keeps d s h.belongs) ∙ e), λ f. keeps d s h.belongs ∙ (h.accepts d).1 f);
}

-- ---- the pattern of a number

module _ (E : Definitions) (P : Tree) (m : CompiledPatterns) (n : ℕ) (i : IsNumbered E P m n) where
  there : (n < length (pattern_states m.compiled)) × IsCompiledState E (pattern_tree i.rows i.id) m.states.auto (marking_of_program m.compiled) (state_of m n)
  there = paired_at (IsPatternState E i.rows m.states.auto (marking_of_program m.compiled)) m.ids.items (pattern_states m.compiled) n i.id (record { number = 0 }) i.patterns.patterns i.number

  pub numbered_below : n < length (pattern_states m.compiled)
  numbered_below = there.0

  pub numbered_state : IsCompiledState E P m.states.auto (marking_of_program m.compiled) (state_of m n)
  numbered_state = subst (λ (T : Tree). IsCompiledState E T m.states.auto (marking_of_program m.compiled) (state_of m n)) i.is there.1

  pub numbered_variables : variables_at m n ≡ variables_of P
  numbered_variables =
      ap (λ (vss : List (List (List ℕ))). get_or vss n []) i.patterns.variables
      ∙ got_map (λ id. variables_of (pattern_tree i.rows id)) m.ids.items n i.id [] i.number ∙ ap variables_of i.is

  pub numbered_counted : n < length (pattern_variables m.compiled)
  numbered_counted = subst (λ (vss : List (List (List ℕ))). n < length vss) (sym i.patterns.variables) (within_map (λ id. variables_of (pattern_tree i.rows id)) m.ids.items n i.id i.number)

  pub numbered_alike : (vs : List (List ℕ)) → vs ≡ variables_at m n → (x : ℕ) → x < length vs → LeavesOutAlike m.states (word_moves m.compiled vs x)
  numbered_alike vs e =
      subst (λ (ws : List (List ℕ)). (x : ℕ) → x < length ws → LeavesOutAlike m.states (word_moves m.compiled ws x)) (sym e)
      (leaves_out m (variables_at m n) (all_get (AreWithin (words_of_program m.compiled)) (pattern_variables m.compiled) n [] i.patterns.words numbered_counted) i.patterns.alike)

  pub numbered_together : (vs : List (List ℕ)) (s : State) → s ≡ state_of m n → (x : ℕ) → x < length vs → KeepsTogether m.states.auto (word_moves m.compiled vs x) s
  numbered_together vs s is x h =
      let k = marking_of_program m.compiled in
      let w = get_or vs x [] in
      subst (λ (t : State). KeepsTogether m.states.auto (word_moves m.compiled vs x) t) (sym is)
      (together_same m.states.auto (moves_of k w) (word_moves m.compiled vs x) (same_back (word_moves m.compiled vs x) (moves_of k w) (word_same m.compiled vs x h)) (state_of m n)
      (keeps_together E P m.states.auto k (state_of m n) numbered_state.compiled w))

-- ---- which documents none of the patterns takes

pub states_there : (E : Definitions) (rows : List Row) (m : CompiledPatterns) → ArePatterns E rows m → AllByRecursion (IsState m.states.auto) (pattern_states m.compiled)
states_there E rows m are = go m.ids.items (pattern_states m.compiled) are.patterns
  where
    go : (ids : List PatternId) (ss : List State) → AllPaired (IsPatternState E rows m.states.auto (marking_of_program m.compiled)) ids ss → AllByRecursion (IsState m.states.auto) ss
    go [] [] h = tt
    go [] (s ∷ ss) h = absurd h
    go (i ∷ ids) [] h = absurd h
    go (i ∷ ids) (s ∷ ss) h = (h.0.belongs, go ids ss h.1)

-- none of the states accepts a document just where none of the patterns takes it
none_of : (E : Definitions) (rows : List Row) (a : Automaton) (k : Marking) (d : Document) (ids : List PatternId) (ss : List State) → AllPaired (IsPatternState E rows a k) ids ss →
    (any_accepts a ss d ≡ false) ↔ NoneTakes E (placed_patterns rows ids) d
none_of E rows a k d [] [] h = (λ e. tt, λ n. refl)
none_of E rows a k d [] (s ∷ ss) h = absurd h
none_of E rows a k d (i ∷ ids) [] h = absurd h
none_of E rows a k d (i ∷ ids) (s ∷ ss) h =
    let takes : (accepts a d s ≡ true) ↔ Takes E (unplaced (placed_pattern rows i)) d = subst (λ (T : Tree). (accepts a d s ≡ true) ↔ Takes E T d) (sym (unplaced_at rows i.at)) (h.0.compiled.accepts d) in
    let others = none_of E rows a k d ids ss h.1 in (
      λ e. let b = or_parts (accepts a d s) (any_accepts a ss d) e in (λ t. let y : true ≡ false = sym (takes.1 t) ∙ b.0 in cc, others.0 b.1),
      λ n. or_from (accepts a d s) (any_accepts a ss d) (false_from_ne_true (accepts a d s) (λ y. n.0 (takes.0 y))) (others.1 n.1),
    )

-- the first of two lists that go together, so many of them, go together
paired_take : {A B : Type 0} (R : A → B → Type 0) (n : ℕ) (xs : List A) (ys : List B) → AllPaired R xs ys → AllPaired R (take n xs) (take n ys)
paired_take R zero xs ys h = tt
paired_take R (suc n) [] [] h = tt
paired_take R (suc n) [] (y ∷ ys) h = absurd h
paired_take R (suc n) (x ∷ xs) [] h = absurd h
paired_take R (suc n) (x ∷ xs) (y ∷ ys) h = (h.0, paired_take R n xs ys h.1)

pub paired_length : {A B : Type 0} (R : A → B → Type 0) (xs : List A) (ys : List B) → AllPaired R xs ys → length xs ≡ length ys
paired_length R [] [] h = refl
paired_length R [] (y ∷ ys) h = absurd h
paired_length R (x ∷ xs) [] h = absurd h
paired_length R (x ∷ xs) (y ∷ ys) h = ap suc (paired_length R xs ys h.1)

module _ (E : Definitions) (rows : List Row) (m : CompiledPatterns) (are : ArePatterns E rows m) (n : ℕ) (ss : List State) (is : ss ≡ take n (pattern_states m.compiled)) where
  pub firsts_there : AllByRecursion (IsState m.states.auto) ss
  firsts_there = subst (λ (us : List State). AllByRecursion (IsState m.states.auto) us) (sym is) (all_take (IsState m.states.auto) n (pattern_states m.compiled) (states_there E rows m are))

  pub left_by_firsts : (b x : Bool) (d : Document) → b ≡ (x && not (any_accepts m.states.auto ss d)) → (b ≡ true) ↔ ((x ≡ true) × NoneTakes E (placed_patterns rows (take n m.ids.items)) d)
  left_by_firsts b x d e =
      let us = take n (pattern_states m.compiled) in
      let told = and_tells b x (any_accepts m.states.auto us d) (e ∙ ap (λ (vs : List State). x && not (any_accepts m.states.auto vs d)) is) in
      let R = IsPatternState E rows m.states.auto (marking_of_program m.compiled) in
      let none = none_of E rows m.states.auto (marking_of_program m.compiled) d (take n m.ids.items) us (paired_take R n m.ids.items (pattern_states m.compiled) are.patterns) in
      (λ y. let r = told.0 y in (r.0, none.0 r.1), λ r. told.1 (r.0, none.1 r.1))

pub as_many_states : (E : Definitions) (rows : List Row) (m : CompiledPatterns) → ArePatterns E rows m → length m.ids.items ≡ length (pattern_states m.compiled)
as_many_states E rows m are = paired_length (IsPatternState E rows m.states.auto (marking_of_program m.compiled)) m.ids.items (pattern_states m.compiled) are.patterns

-- ---- the last of some patterns

pub last_numbered : (E : Definitions) (rows : List Row) (m : CompiledPatterns) → ArePatterns E rows m → (earlier : List PatternId) (id : PatternId) → m.ids.items ≡ earlier ++ id ∷ [] → IsNumbered E (unplaced (placed_pattern rows id)) m (length earlier)
last_numbered E rows m are earlier id is = record {
  rows = rows;
  id = id;
  patterns = are;
  number = ap (λ (ids : List PatternId). slice_get ids (length earlier)) is ∙ last_at earlier id;
  is = sym (unplaced_at rows id.at);
}

-- the same by other names of the patterns and of the number
pub numbered_as : (E : Definitions) (P : Tree) (m o : CompiledPatterns) (n i : ℕ) → o ≡ m → i ≡ n → IsNumbered E P m n → IsNumbered E P o i
numbered_as E P m o n i e f h = subst (λ (p : CompiledPatterns). IsNumbered E P p i) (sym e) (subst (IsNumbered E P m) (sym f) h)

-- ---- which documents come

pub alone_parts : (x y : Bool) → (x && (y && true)) ≡ true → (x ≡ true) × (y ≡ true)
alone_parts true true e = (refl, refl)
alone_parts true false e = cc
alone_parts false y e = cc

pub alone_joined : (x y : Bool) → x ≡ true → y ≡ true → (x && (y && true)) ≡ true
alone_joined true true e f = refl
alone_joined true false e f = cc
alone_joined false y e f = cc

module _ (E : Definitions) (P : PlacedTree) (m : CompiledPatterns) (n : ℕ) (i : IsNumbered E (unplaced P) m n) where
  module _ (q : Automaton) (t : State) where
    pub none_comes : ((d : Document) → takes_alone q m.states t (state_of m n) [] d ≡ false) → IsLive E (Accepted q t) [] P → ⊥
    none_comes none live =
        let yes = alone_joined (accepts q live.0 t) (accepts m.states.auto live.0 (state_of m n)) live.1.1 (((numbered_state E (unplaced P) m n i).compiled.accepts live.0).1 live.2) in
        let no = none live.0 in let c : true ≡ false = sym yes ∙ no in cc

    pub some_comes : IsSharedAlone q m.states t (state_of m n) [] → IsLive E (Accepted q t) [] P
    some_comes s =
        let both = alone_parts (accepts q s.document t) (accepts m.states.auto s.document (state_of m n)) s.alone in
        (s.document, (s.proper, both.0, tt), ((numbered_state E (unplaced P) m n i).compiled.accepts s.document).0 both.1)

  -- ---- what the variables are given, where this is known of the moves that belong to a word

  module _ (V : Allowance) (gives : Owned → Document → Type 0) (same : (b c : Owned) → SameMoves b c → (e : Document) → gives b e → gives c e)
      (law : (x : List ℕ) → has_word (variables_of (unplaced P)) x ≡ true → (e : Document) → is_proper e ≡ true → gives (moves_of (marking_of_program m.compiled) x) e ↔ V x e) (made : Automaton) where
    one_given : (x : ℕ) (b : Given) → x < length (variables_at m n) → IsGivenFor gives (word_moves m.compiled (variables_at m n)) (variables_at m n) made x b → IsGivenOf V made b
    one_given x b h c =
        let vs = variables_at m n in
        let k = marking_of_program m.compiled in
        let w = get_or vs x [] in
        let e : w ≡ b.variable = got_word vs x b.variable c.variable in
        let there : has_word (variables_of (unplaced P)) b.variable ≡ true =
        sym (ap (λ ws. has_word ws b.variable) (numbered_variables E (unplaced P) m n i)) ∙ among_has vs b.variable (got_among vs x b.variable c.variable) in
        let own = word_same m.compiled vs x h in
        let back = same_back (word_moves m.compiled vs x) (moves_of k w) own in
        record {
          belongs = c.belongs;
          exact = λ d proper. (
            λ y. (law b.variable there d proper).0 (subst (λ v. gives (moves_of k v) d) e (same (word_moves m.compiled vs x) (moves_of k w) own d ((c.given d).0 y))),
            λ y. (c.given d).1 (same (moves_of k w) (word_moves m.compiled vs x) back d (subst (λ v. gives (moves_of k v) d) (sym e) ((law b.variable there d proper).1 y))),
          );
        }

    pub all_given : (bs : List Given) → AreGivensFor gives (word_moves m.compiled (variables_at m n)) (variables_at m n) made bs → AreGivensOf V P made bs
    all_given bs c = record {
      variables = same_words bs (variables_at m n) c.count (λ x d l. (c.each x d l).variable) ∙ numbered_variables E (unplaced P) m n i;
      each = λ x d l. one_given x (get_or bs x d) (let k = c.count in omega arith) (c.each x d l);
    }

  -- ---- what they may be

  module _ (q : Automaton) (t : State) where
    same_given : (b c : Owned) → SameMoves b c → (e : Document) → RunsGive false q m n t b e → RunsGive false q m n t c e
    same_given b c h e g = record {
      given = record {
        document = g.given.document;
        proper = g.given.proper;
        run = g.given.run;
        accepting = g.given.accepting;
        gives = ap (λ r. held g.given.document r) (sym (trace_same m.states.auto b c h (state_of m n) g.given.run)) ∙ g.given.gives;
      };
      alone = g.alone;
    }

    tells_alone : (x : List ℕ) → has_word (variables_of (unplaced P)) x ≡ true → (e : Document) → is_proper e ≡ true → RunsGive false q m n t (moves_of (marking_of_program m.compiled) x) e ↔ MayBind E (Accepted q t) [] P x e
    tells_alone x there e proper =
        let a = m.states.auto in
        let s = state_of m n in
        let k = marking_of_program m.compiled in
        let law = tells E P a k s (numbered_state E (unplaced P) m n i).compiled x (sym (variables_have (unplaced P) x) ∙ there) q t e proper in (
          λ g. law.0 (record { given = g.given; accepted = (alone_parts (accepts q g.given.document t) (accepts a g.given.document s) g.alone).0 }),
          λ y. let g = law.1 y in record {
            given = g.given;
            alone = alone_joined (accepts q g.given.document t) (accepts a g.given.document s) g.accepted ((runs_law a s g.given.document).1 (g.given.run, g.given.accepting));
          },
        )

    pub all_may_bind : (made : Automaton) (bs : List Given) → AreRunsGivens false q m n t made bs → AreMayGivens E (Accepted q t) [] P made bs
    all_may_bind made bs c = all_given (MayBind E (Accepted q t) [] P) (RunsGive false q m n t) same_given tells_alone made bs c

-- what is found tells that the clause is live
pub found_live : {X : Type 0} (m : CompiledPatterns) (n : ℕ) (q : Automaton) (t : State) (o : Option X) → IfSome o (λ gs. IsSharedAlone q m.states t (state_of m n) []) →
    IfSome o (λ gs. (E : Definitions) (P : PlacedTree) → IsNumbered E (unplaced P) m n → IsLive E (Accepted q t) [] P)
found_live m n q t None h = h
found_live m n q t (Some gs) h = λ E P i. some_comes E P m n i q t h
