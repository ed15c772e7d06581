-- Pairs in order, each once, and numbers that are sought among others in order.
use Rattle.std.proofs.Common.{ℕ, ◌≡◌, ◌<◌, ◌≤◌, ⊎_elim, Bool, true, false, ◌&&◌, List, length, get_or, Result, Ok, Err, refl, ap, sym, subst, ◌∙◌, arith}
use Rattle.std.specs.Prelude.{◌==◌, nat_eq}
use Rattle.std.specs.Cmp.{IsEquivalence}
use Rattle.std.specs.List.{dedup, list_any}
use Rattle.std.specs.List.Sorted.{IsBinarySearchResult, IsNonDecreasing}
use Rattle.std.specs.Ordering.{nat_cmp}
use Rattle.std.specs.Result.{MatchResult, is_ok}
use Rattle.std.proofs.lemmas.Bool.{and_from, and_parts, cases_lt, eqb-true}
use Rattle.std.proofs.lemmas.Cmp.{nat_eq_equiv}
use Rattle.std.proofs.lemmas.List.{get_or_default}
use Rattle.std.proofs.lemmas.List.Folds.{Any-from_list_any, list_any_at}
use Rattle.std.proofs.lemmas.List.Sorted.{searched}
use Rattle.xd_doc.proofs.Bools.{same_tests}
use Rattle.xd_auto.specs.declared.auto.State.{State}
use Rattle.xd_stream.specs.declared.pairs.Pair.{Pair}
use Rattle.xd_stream.proofs.AllPassLemmas.{any_dedup}

-- a test that finds the same alone
equality : {X : Type 0} (E : X → X → Bool) → ((x : X) → E x x ≡ true) → ((x y : X) → E x y ≡ true → x ≡ y) → IsEquivalence E
equality {X} E each same = record {
  refl = each;
  symm = λ x y. same_tests (E x y) (E y x) (back x y) (back y x);
  congr = λ x y z h. ap (λ (v : X). E v z) (same x y h);
}
  where
    back : (x y : X) → E x y ≡ true → E y x ≡ true
    back x y h = subst (λ (v : X). E v x ≡ true) (same x y h) (each x)

abbrev pub same_pair : Pair → Pair → Bool
same_pair p q = nat_eq p.first.number q.first.number && nat_eq p.present.number q.present.number

is_same : (p q : Pair) → same_pair p q ≡ true → p ≡ q
is_same p q h =
    let parts = and_parts (nat_eq p.first.number q.first.number) (nat_eq p.present.number q.present.number) h in
    let first : p.first.number ≡ q.first.number = eqb-true p.first.number q.first.number parts.0 in
    let present : p.present.number ≡ q.present.number = eqb-true p.present.number q.present.number parts.1 in
    let state : ℕ → State = λ n. record { number = n } in
    ap (λ n. let r : Pair = record { first = state n; present = p.present } in r) first
    ∙ ap (λ n. let r : Pair = record { first = q.first; present = state n } in r) present

-- each pair once
pub any_once : (f : Pair → Bool) (ps : List Pair) → list_any f (dedup same_pair ps) ≡ list_any f ps
any_once f ps =
    any_dedup (equality same_pair (λ p. and_from (nat_eq p.first.number p.first.number) (nat_eq p.present.number p.present.number) (nat_eq_equiv.refl p.first.number) (nat_eq_equiv.refl p.present.number)) is_same)
    is_same f ps

-- what a search for a number among numbers in order tells
abbrev pub IsSought : List ℕ → ℕ → Result ℕ ℕ → Type 0
IsSought ns n r = MatchResult r (λ i. (i < length ns) × (get_or ns i 0 ≡ n)) (λ i. (i ≤ length ns) × ((k : ℕ) → k < i → get_or ns k 0 < n) × ((k : ℕ) → i ≤ k → k < length ns → n < get_or ns k 0))

-- a number is found exactly where it is there
pub any_found : (ns : List ℕ) (n : ℕ) (r : Result ℕ ℕ) → IsBinarySearchResult (λ m. nat_cmp m n) ns r → IsNonDecreasing ns → is_ok r ≡ list_any (λ m. m == n) ns
any_found ns n r result order = go r (searched ns n r result (λ i j le lt. order i j 0 le lt))
  where
    none : (i : ℕ) → IsSought ns n (Err i) → (b : Bool) → list_any (λ m. m == n) ns ≡ b → false ≡ b
    none i h false e = refl
    none i h true e =
        let a = Any-from_list_any (λ m. m == n) ns e in
        let there : get_or ns a.0 0 ≡ n = get_or_default ns a.0 0 a.1 a.2 ∙ a.3 ∙ eqb-true a.1 n a.4 in
        absurd (⊎_elim (λ lt. let l = h.1 a.0 lt in omega (arith, l, there)) (λ le. let l = h.2 a.0 le a.2 in omega (arith, l, there)) (cases_lt a.0 i))

    go : (r : Result ℕ ℕ) → IsSought ns n r → is_ok r ≡ list_any (λ m. m == n) ns
    go (Ok i) h = sym (list_any_at (λ m. m == n) ns i 0 h.0 (ap (λ k. k == n) h.1 ∙ nat_eq_equiv.refl n))
    go (Err i) h = none i h (list_any (λ m. m == n) ns) refl
