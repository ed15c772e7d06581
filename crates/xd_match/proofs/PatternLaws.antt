-- Compiled patterns, and lists of them.
use Rattle.std.proofs.Common.{ℕ, ◌≡◌, ◌<◌, List, [], ◌∷◌, ◌++◌, length, get_or, set, get_or-set_same, get_or-set_other, arith, sym, subst, option_map, inl, inr}
use Rattle.std.proofs.lemmas.Bool.{cases_eq}
use Rattle.std.proofs.lemmas.List.{length_push, length-set}
use Rattle.std.proofs.lemmas.Grind.{common_steps}
use Rattle.xd_doc.specs.Document.{Document}
use Rattle.xd_doc.specs.StoreNodes.{Keeps}
use Rattle.xd_auto.specs.declared.auto.State.{State}
use Rattle.xd_auto.specs.Automaton.{Automaton}
use Rattle.xd_auto.proofs.Walks.{places_push}
use Rattle.xd_syntax.specs.Tree.{Definitions, Tree}
use Rattle.xd_meaning.specs.Bindings.{variables_of, first_bindings}
use Rattle.xd_pattern_runs.specs.Laws.{run_bindings}
use Rattle.xd_patterns.specs.Marked.{IsCompiled, Marking}
use Rattle.xd_match.specs.First.{first_run}
use Rattle.xd_match.specs.Matcher.{AllStand, HasMatcher, IsOfPattern, Stands}
use Rattle.xd_match.specs.declared.matcher.Matcher.{Matcher}
use Rattle.xd_match.proofs.MatchersStay.{stands_stay}

-- the first run of a compiled pattern is its first match
pub compiled_matches : (E F : Definitions) (P Q : Tree) (a : Automaton) (k : Marking) (s : State) → E ≡ F → P ≡ Q → IsCompiled E P a k s →
    (d : Document) → option_map (run_bindings (variables_of Q) d) (first_run a k d s) ≡ first_bindings F Q d
compiled_matches E F P Q a k s e t c =
    subst (λ (T : Tree). (d : Document) → option_map (run_bindings (variables_of T) d) (first_run a k d s) ≡ first_bindings F T d) t
    (subst (λ (D : Definitions). (d : Document) → option_map (run_bindings (variables_of P) d) (first_run a k d s) ≡ first_bindings D P d) e c.first_match)

-- one more matcher
pub all_stand_more : (ds : List Document) (ms : List Matcher) (m : Matcher) → AllStand ds ms → Stands ds m → AllStand ds (ms ++ m ∷ [])
all_stand_more ds ms m h s i e lt = places_push (λ (j : ℕ) (q : Matcher). Stands ds q) ms m (λ j f below. h j f below) s i e lt

pub has_matcher_more : (E : Definitions) (P : Tree) (ms : List Matcher) (m : Matcher) (i : ℕ) → HasMatcher E P ms i → HasMatcher E P (ms ++ m ∷ []) i
has_matcher_more E P ms m i h =
    let l = length_push ms m in
    let t = h.there in
    record { there = omega arith; of_pattern = λ e. subst (IsOfPattern E P) (sym (get_or_front ms m i e h.there)) (h.of_pattern e) }
  where
    get_or_front : (xs : List Matcher) (x : Matcher) (n : ℕ) (e : Matcher) → n < length xs → get_or (xs ++ x ∷ []) n e ≡ get_or xs n e
    get_or_front xs x n e lt = grind (arith, common_steps)

pub has_matcher_new : (E : Definitions) (P : Tree) (ms : List Matcher) (m : Matcher) → IsOfPattern E P m → HasMatcher E P (ms ++ m ∷ []) (length ms)
has_matcher_new E P ms m h = record {
  there = (let l = length_push ms m in omega arith);
  of_pattern = λ e. subst (IsOfPattern E P) (sym (get_or_last ms m e)) h;
}
  where
    get_or_last : (xs : List Matcher) (x e : Matcher) → get_or (xs ++ x ∷ []) (length xs) e ≡ x
    get_or_last xs x e = grind (arith, common_steps)

-- one of the matchers has found a match
pub all_stand_set : (old new : List Document) (ms : List Matcher) (n : ℕ) (m : Matcher) → Keeps old new → AllStand old ms → n < length ms → Stands new m → AllStand new (set ms n m)
all_stand_set old new ms n m k h lt s i e below = elim (cases_eq i n) [
  | inl q ↦ subst (λ (j : ℕ). Stands new (get_or (set ms n m) j e)) (sym q) (subst (Stands new) (sym (get_or-set_same ms n m e lt)) s)
  | inr q ↦ subst (Stands new) (sym (get_or-set_other ms n i m e q)) (stands_stay (get_or ms i e) old new (h i e (let l = length-set ms n m in omega arith)) k)
]

pub has_matcher_set : (E : Definitions) (P : Tree) (ms : List Matcher) (n : ℕ) (was m : Matcher) (i : ℕ) → was ≡ get_or ms n was → (IsOfPattern E P was → IsOfPattern E P m) → n < length ms →
    HasMatcher E P ms i → HasMatcher E P (set ms n m) i
has_matcher_set E P ms n was m i is stays lt h = record {
  there = (let l = length-set ms n m in let t = h.there in omega arith);
  of_pattern = λ e. elim (cases_eq i n) [
    | inl q ↦
        subst (λ (j : ℕ). IsOfPattern E P (get_or (set ms n m) j e)) (sym q)
        (subst (IsOfPattern E P) (sym (get_or-set_same ms n m e lt)) (stays (subst (IsOfPattern E P) (sym is) (subst (λ (j : ℕ). IsOfPattern E P (get_or ms j was)) q (h.of_pattern was)))))
    | inr q ↦ subst (IsOfPattern E P) (sym (get_or-set_other ms n i m e q)) (h.of_pattern e)
  ];
}
