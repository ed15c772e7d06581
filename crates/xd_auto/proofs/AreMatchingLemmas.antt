-- The moves that share a name with a move.
use Rattle.std.proofs.Common.{ℕ, ◌+◌, ◌<◌, ◌≤◌, ◌≡◌, ◌⊎◌, inl, inr, ⊎_elim, Bool, true, false, ◌||◌, List, [], ◌∷◌, ◌++◌, length, take, get_or, arith, ap, refl, sym, subst, ◌∙◌}
use Rattle.std.specs.List.{Contains, list_any}
use Rattle.std.specs.List.Sorted.{IsStrictlyIncreasing}
use Rattle.std.specs.Ordering.{is_eq}
use Rattle.std.specs.declared.cmp.Ordering.{Ordering}
use Rattle.std.proofs.lemmas.Bool.{cases_eq, cases_lt}
use Rattle.std.proofs.lemmas.List.{get_or_default}
use Rattle.std.proofs.lemmas.List.Elements.{Contains-append_left, Contains-push, Contains-push_cases}
use Rattle.std.proofs.lemmas.List.Folds.{list_any_more}
use Rattle.std.proofs.lemmas.Map.Lookups.{CmpEqualImpliesEq}
use Rattle.std.proofs.lemmas.Map.Views.{tells_apart}
use Rattle.xd_auto.specs.Automaton.{IsNext}
use Rattle.xd_auto.specs.Matching.{AddsMatching, AreMatching}

module _ {M N : Type 0} (has : M → N → Bool) (moves : List M) (name : N) where
  -- those of the moves before this one were added
  pub record AddsBefore (number : ℕ) (old new : List ℕ) : Type 0 where
    pub until : number ≤ length moves
    pub keeps : (k : ℕ) → Contains old k → Contains new k
    pub within : (k : ℕ) → Contains new k → Contains old k ⊎ (k < length moves)
    pub covers : (k : ℕ) (d : M) → k < number → has (get_or moves k d) name ≡ true → Contains new k

  lacks : (from number k : ℕ) (d : M) (X : Type 0) → IsNext has moves name from number → from ≤ k → k < number → has (get_or moves k d) name ≡ true → X
  lacks from number k d X next le lt e = absurd (let no : true ≡ false = sym e ∙ next.lacks k d le lt in cc)

  pub adds_first : (number : ℕ) (old : List ℕ) → IsNext has moves name 0 number → AddsBefore number old old
  adds_first number old next = record {
    until = next.within;
    keeps = λ k among. among;
    within = λ k among. inl among;
    covers = λ k d lt e. lacks 0 number k d (Contains old k) next (omega arith) lt e;
  }

  pub adds_next : (number further : ℕ) (old now new : List ℕ) → AddsBefore number old now → number < length moves → new ≡ now ++ number ∷ []
      → IsNext has moves name (number + 1) further → AddsBefore further old new
  adds_next number further old now new before lt is next = record {
    until = next.within;
    keeps = λ k among. more k (before.keeps k among);
    within = λ k among. ⊎_elim (λ h. before.within k h) (λ e. inr (omega arith)) (Contains-push_cases now number k (subst (λ (ns : List ℕ). Contains ns k) is among));
    covers = λ k d below e. ⊎_elim
        (λ same. subst (λ (n : ℕ). Contains new n) (sym same) (subst (λ (ns : List ℕ). Contains ns number) (sym is) (Contains-push now number)))
        (λ ne. ⊎_elim
        (λ early. more k (before.covers k d early e))
        (λ late. lacks (number + 1) further k d (Contains new k) next (omega arith) below e)
        (cases_lt k number))
        (cases_eq k number);
  }
    where
      more : (k : ℕ) → Contains now k → Contains new k
      more k among = subst (λ (ns : List ℕ). Contains ns k) (sym is) (Contains-append_left now (number ∷ []) k among)

  pub adds_all : (number : ℕ) (old new : List ℕ) → AddsBefore number old new → length moves ≤ number → AddsMatching has moves name old new
  adds_all number old new before end = record {
    keeps = before.keeps;
    within = before.within;
    covers = λ k d lt e. before.covers k d (omega arith) e;
  }

module _ {M N : Type 0} (R : N → N → Ordering) (has : M → N → Bool) (moves : List M) where
  -- the numbers of the moves that have one of the names
  pub record MatchNames (names : List N) (numbers : List ℕ) : Type 0 where
    pub within : (k : ℕ) → Contains numbers k → k < length moves
    pub covers : (k : ℕ) (d : M) (x : N) → k < length moves → list_any (λ name. is_eq (R name x)) names ≡ true → has (get_or moves k d) x ≡ true → Contains numbers k

  pub match_none : MatchNames [] []
  match_none = record { within = λ k among. absurd (omega (arith, among.1)); covers = λ k d x lt named e. absurd (cc) }

  pub match_more : CmpEqualImpliesEq R → (names : List N) (i : ℕ) (name : N) (old new : List ℕ) → i < length names → name ≡ get_or names i name
      → MatchNames (take i names) old → AddsMatching has moves name old new → MatchNames (take (i + 1) names) new
  match_more exact names i name old new lt at before adds = record {
    within = λ k among. ⊎_elim (λ h. before.within k h) (λ h. h) (adds.within k among);
    covers = λ k d x below named e. go k d x below e (is_eq (R name x)) refl (list_any (λ n. is_eq (R n x)) (take i names)) refl (sym (one_more x) ∙ named);
  }
    where
      one_more : (x : N) → list_any (λ n. is_eq (R n x)) (take (i + 1) names) ≡ (list_any (λ n. is_eq (R n x)) (take i names) || is_eq (R name x))
      one_more x = list_any_more (λ n. is_eq (R n x)) names i name lt ∙ ap (λ n. list_any (λ m. is_eq (R m x)) (take i names) || is_eq (R n x)) (sym at)

      go : (k : ℕ) (d : M) (x : N) → k < length moves → has (get_or moves k d) x ≡ true → (b : Bool) → is_eq (R name x) ≡ b → (f : Bool) → list_any (λ n. is_eq (R n x)) (take i names) ≡ f
          → (list_any (λ n. is_eq (R n x)) (take i names) || is_eq (R name x)) ≡ true → Contains new k
      go k d x below e b same true front h = adds.keeps k (before.covers k d x below front e)
      go k d x below e true same false front h = adds.covers k d below (ap (has (get_or moves k d)) (tells_apart exact name x same) ∙ e)
      go k d x below e false same false front h = absurd (cc)

  -- the same numbers in order, for a move that has no other names
  pub match_all : (step : M) (names : List N) (old new : List ℕ) → MatchNames names old → ((x : N) → has step x ≡ true → list_any (λ name. is_eq (R name x)) names ≡ true)
      → IsStrictlyIncreasing new → ((k : ℕ) → Contains old k → Contains new k) → ((k : ℕ) → Contains new k → Contains old k) → AreMatching has step moves new
  match_all step names old new match named rise keeps only = record {
    rise = rise;
    within = λ i d lt. match.within (get_or new i d) (only (get_or new i d) (i, lt, sym (get_or_default new i d (get_or new i d) lt)));
    cover = λ k d x lt takes e. keeps k (match.covers k d x lt (named x takes) e);
  }

-- all numbers
pub match_each : {M N : Type 0} (has : M → N → Bool) (step : M) (moves : List M) (numbers : List ℕ) → length numbers ≡ length moves → ((k : ℕ) → k < length moves → get_or numbers k 0 ≡ k)
    → AreMatching has step moves numbers
match_each has step moves numbers count each = record {
  rise = λ k lt. omega (arith, each k (omega arith), each (k + 1) (omega arith));
  within = λ i d lt. omega (arith, get_or_default numbers i d 0 lt, each i (omega arith));
  cover = λ k d x lt takes e. (k, omega arith, get_or_default numbers k k 0 (omega arith) ∙ each k lt);
}
