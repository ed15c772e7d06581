-- What variables are given, and states in automata of their own.
use Rattle.std.proofs.Common.{◌≡◌, ◌↔◌, ℕ, zero, suc, ◌<◌, ◌+◌, Bool, true, false, List, [], ◌∷◌, ◌++◌, map, length, take, get_or, Option, Some, None, refl, sym, ap, ◌∙◌, subst, arith}
use Rattle.std.specs.List.{All, AllByRecursion, list_any, slice_get}
use Rattle.std.specs.Option.{IfSome, is_some}
use Rattle.std.proofs.lemmas.List.{take_more}
use Rattle.xd_doc.specs.Document.{Document, is_proper}
use Rattle.xd_auto.specs.declared.auto.State.{State}
use Rattle.xd_auto.specs.Automaton.{Automaton, IsState, accepts, moves_at, no_moves}
use Rattle.xd_points.proofs.OperationLemmas.{accepts_nothing, newest}
use Rattle.xd_meaning.specs.Bindings.{variables_of}
use Rattle.xd_syntax.specs.Placed.{PlacedTree, unplaced}
use Rattle.xd_syntax.specs.May.{Allowance}
use Rattle.xd_meaning.specs.KeptFaults.{AllPaired}
use Rattle.xd_bind.specs.declared.tracks.Binding.{Binding}
use Rattle.xd_bind.specs.declared.tracks.Given.{Given}
use Rattle.xd_clauses.specs.Cases.{HasOwnAutomaton, IsGivenNothing}
use Rattle.xd_clauses.specs.Clauses.{AreBindingsOf, AreGivensOf, IsBindingOf, IsGivenOf, IsStateOf}
use Rattle.xd_patterns.proofs.Pairing.{paired_end}

-- ---- a state without moves

any_none : {X : Type 0} (p : X → Bool) (xs : List X) → xs ≡ [] → list_any p xs ≡ false
any_none p xs h = ap (list_any p) h

pub nothing_more : (vs : List (List ℕ)) (gs : List Given) (i : ℕ) (v : List ℕ) (a b : Automaton) (s : State) → i < length vs → v ≡ get_or vs i v → s.number ≡ length a → b ≡ a ++ no_moves false ∷ [] →
    IsState b s → AllPaired (IsGivenNothing b) (take i vs) gs → AllPaired (IsGivenNothing b) (take (i + 1) vs) (gs ++ record { variable = v; state = s } ∷ [])
nothing_more vs gs i v a b s lt e at is there h =
    let moves : moves_at b s ≡ no_moves false = ap (λ (w : Automaton). moves_at w s) is ∙ ap (λ n. get_or (a ++ no_moves false ∷ []) n (no_moves false)) at ∙ newest a (no_moves false) in
    subst (λ ws. AllPaired (IsGivenNothing b) ws (gs ++ record { variable = v; state = s } ∷ [])) (sym (take_more vs i v lt))
    (paired_end (IsGivenNothing b) (take i vs) gs (get_or vs i v) (record { variable = v; state = s }) h
    (record { variable = e; belongs = there; nothing = accepts_nothing b s moves }))

all_front : {X : Type 0} (Q : X → Type 0) (x : X) (xs : List X) → Q x → All Q xs → All Q (x ∷ xs)
all_front Q x xs p h zero d lt = p
all_front Q x xs p h (suc i) d lt = h i d (omega arith)

-- ---- variables that are given nothing

module _ (V : Allowance) (nothing : (x : List ℕ) (d : Document) → V x d → ⊥) (a : Automaton) where
  nothing_given : (x : List ℕ) (g : Given) → IsGivenNothing a x g → IsGivenOf V a g
  nothing_given x g n = record {
    belongs = n.belongs;
    exact = λ e proper. (λ y. absurd (let no : accepts a e g.state ≡ false = n.nothing e in cc), λ m. absurd (nothing g.variable e m));
  }

  words_nothing : (vs : List (List ℕ)) (gs : List Given) → AllPaired (IsGivenNothing a) vs gs → map (λ (g : Given). g.variable) gs ≡ vs
  words_nothing [] [] h = refl
  words_nothing [] (g ∷ gs) h = absurd h
  words_nothing (v ∷ vs) [] h = absurd h
  words_nothing (v ∷ vs) (g ∷ gs) h = ap (λ w. w ∷ map (λ (k : Given). k.variable) gs) (h.0).variable ∙ ap (λ ws. v ∷ ws) (words_nothing vs gs h.1)

  each_nothing : (vs : List (List ℕ)) (gs : List Given) → AllPaired (IsGivenNothing a) vs gs → All (IsGivenOf V a) gs
  each_nothing [] [] h = λ i d lt. absurd (omega arith)
  each_nothing [] (g ∷ gs) h = absurd h
  each_nothing (v ∷ vs) [] h = absurd h
  each_nothing (v ∷ vs) (g ∷ gs) h = all_front (IsGivenOf V a) g gs (nothing_given v g h.0) (each_nothing vs gs h.1)

  pub all_nothing : (P : PlacedTree) (vs : List (List ℕ)) (gs : List Given) → vs ≡ variables_of (unplaced P) → AllPaired (IsGivenNothing a) vs gs → AreGivensOf V P a gs
  all_nothing P vs gs e h = record { variables = words_nothing vs gs h ∙ e; each = each_nothing vs gs h }

-- ---- what a variable may be, said in another way

module _ (V W : Allowance) (same : (x : List ℕ) (d : Document) → is_proper d ≡ true → V x d ↔ W x d) where
  given_as : (a : Automaton) (g : Given) → IsGivenOf V a g → IsGivenOf W a g
  given_as a g m = record {
    belongs = m.belongs;
    exact = λ e proper. (λ y. (same g.variable e proper).0 ((m.exact e proper).0 y), λ y. (m.exact e proper).1 ((same g.variable e proper).1 y));
  }

  pub givens_as : (P : PlacedTree) (a : Automaton) (gs : List Given) → AreGivensOf V P a gs → AreGivensOf W P a gs
  givens_as P a gs m = record { variables = m.variables; each = λ k d l. given_as a (get_or gs k d) (m.each k d l) }

-- ---- states in automata of their own

pub apart_more : (a : Automaton) (gs : List Given) (bs : List Binding) (i : ℕ) (g : Given) (b : Binding) → i < length gs → g ≡ get_or gs i g → HasOwnAutomaton a g b →
    AllPaired (HasOwnAutomaton a) (take i gs) bs → AllPaired (HasOwnAutomaton a) (take (i + 1) gs) (bs ++ b ∷ [])
apart_more a gs bs i g b lt e p h =
    subst (λ hs. AllPaired (HasOwnAutomaton a) hs (bs ++ b ∷ [])) (sym (take_more gs i g lt))
    (paired_end (HasOwnAutomaton a) (take i gs) bs (get_or gs i g) b h (subst (λ (k : Given). HasOwnAutomaton a k b) e p))

module _ (V : Allowance) (a : Automaton) where
  pub givens_there : (gs : List Given) → All (IsGivenOf V a) gs → AllByRecursion (λ (g : Given). IsState a g.state) gs
  givens_there [] h = tt
  givens_there (g ∷ gs) h = ((h zero g (omega arith)).belongs, givens_there gs (λ i d lt. h (suc i) d (omega arith)))

  one_apart : (g : Given) (b : Binding) → HasOwnAutomaton a g b → IsGivenOf V a g → IsBindingOf V b
  one_apart g b p m = subst (λ x. IsStateOf V b.auto x b.state) (sym p.variable) (record {
    belongs = p.belongs;
    exact = λ e proper. (λ y. (m.exact e proper).0 (sym (p.same e) ∙ y), λ w. p.same e ∙ (m.exact e proper).1 w);
  })

  words_apart : (gs : List Given) (bs : List Binding) → AllPaired (HasOwnAutomaton a) gs bs → map (λ (b : Binding). b.variable) bs ≡ map (λ (g : Given). g.variable) gs
  words_apart [] [] h = refl
  words_apart [] (b ∷ bs) h = absurd h
  words_apart (g ∷ gs) [] h = absurd h
  words_apart (g ∷ gs) (b ∷ bs) h =
      ap (λ w. w ∷ map (λ (c : Binding). c.variable) bs) (h.0).variable ∙ ap (λ ws. g.variable ∷ ws) (words_apart gs bs h.1)

  each_apart : (gs : List Given) (bs : List Binding) → AllPaired (HasOwnAutomaton a) gs bs → All (IsGivenOf V a) gs → All (IsBindingOf V) bs
  each_apart [] [] h m = λ i d lt. absurd (omega arith)
  each_apart [] (b ∷ bs) h m = absurd h
  each_apart (g ∷ gs) [] h m = absurd h
  each_apart (g ∷ gs) (b ∷ bs) h m =
      all_front (IsBindingOf V) b bs (one_apart g b h.0 (m zero g (omega arith))) (each_apart gs bs h.1 (λ j k l. m (suc j) k (omega arith)))

  pub bindings_apart : (P : PlacedTree) (gs : List Given) (bs : List Binding) → AllPaired (HasOwnAutomaton a) gs bs → AreGivensOf V P a gs → AreBindingsOf V P bs
  bindings_apart P gs bs h m = record { variables = words_apart gs bs h ∙ m.variables; each = each_apart gs bs h m.each }

-- ---- the variables, one for one

pub got_word : (vs : List (List ℕ)) (x : ℕ) (w : List ℕ) → slice_get vs x ≡ Some w → get_or vs x [] ≡ w
got_word [] x w e = cc
got_word (v ∷ vs) zero w e = cc
got_word (v ∷ vs) (suc x) w e = got_word vs x w e

pub same_words : (bs : List Given) (vs : List (List ℕ)) → length bs ≡ length vs → ((x : ℕ) (d : Given) → x < length bs → slice_get vs x ≡ Some (get_or bs x d).variable) → map (λ (b : Given). b.variable) bs ≡ vs
same_words [] [] n h = refl
same_words [] (v ∷ vs) n h = absurd (omega arith)
same_words (b ∷ bs) [] n h = absurd (omega arith)
same_words (b ∷ bs) (v ∷ vs) n h =
    let first : Some v ≡ Some b.variable = h zero b (omega arith) in
    let others = same_words bs vs (omega arith) (λ x d l. h (suc x) d (omega arith)) in cc

-- ---- a fact of what there is

pub if_some_map : {X : Type 0} (P Q : X → Type 0) (o : Option X) → ((x : X) → P x → Q x) → IfSome o P → IfSome o Q
if_some_map P Q None f h = h
if_some_map P Q (Some x) f h = f x h

pub some_holds : {X : Type 0} (P : Type 0) (o : Option X) → IfSome o (λ x. P) → is_some o ≡ true → P
some_holds P None h e = cc
some_holds P (Some x) h e = h
