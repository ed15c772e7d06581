-- On names in order.
use Rattle.std.proofs.Common.{◌≡◌, Bool, true, false, not, cond, ◌||◌, ℕ, ◌+◌, ◌<◌, ◌⊎◌, inl, inr, length, get_or, arith, List, [], ◌∷◌, refl, ap, sym, ◌∙◌, nat_lt, ltb-true, ltb-false, Result, Ok, Err}
use mathlib.Core.Bool.{beq}
use Rattle.std.specs.List.{list_any, dedup, dedup_from}
use Rattle.std.specs.List.Sorted.{IsBinarySearchResult, IsSearchInRange, IsSorted, IsStrictlySortedBy}
use Rattle.std.specs.Ordering.{eq_by_cmp, is_eq, is_lt, ordering_reverse}
use Rattle.std.specs.Result.{is_ok}
use Rattle.std.specs.Cmp.{IsTotalOrder}
use Rattle.std.specs.declared.cmp.Ordering.{Ordering}
use Rattle.std.proofs.lemmas.List.Folds.{list_any_at, list_any_none}
use Rattle.std.proofs.lemmas.List.Sorted.{searchable_from_sorted}
use Rattle.std.proofs.lemmas.Map.Keys.{Less-from_sorted}

or_same : (a b c : Bool) → a ≡ b → (b || c) ≡ (b || (a || c))
or_same true true c e = refl
or_same false false c e = refl
or_same true false c e = cc
or_same false true c e = cc

module _ {N : Type 0} (E : N → N → Bool) (p : N → Bool) (alike : (x y : N) → E x y ≡ true → p x ≡ p y) where
  list_any-dedup_from : (k : N) (xs : List N) → list_any p (dedup_from E k xs) ≡ (p k || list_any p xs)
  list_any-dedup_from k [] = refl
  list_any-dedup_from k (x ∷ xs) = step (E x k) refl (list_any-dedup_from k xs) (list_any-dedup_from x xs)
    where
      step : (b : Bool) → E x k ≡ b → list_any p (dedup_from E k xs) ≡ (p k || list_any p xs) → list_any p (dedup_from E x xs) ≡ (p x || list_any p xs) → list_any p (cond b (dedup_from E k xs) (k ∷ dedup_from E x xs)) ≡ (p k || (p x || list_any p xs))
      step true e h g = h ∙ or_same (p x) (p k) (list_any p xs) (alike x k e)
      step false e h g = ap (λ b. p k || b) g

  -- a test that does not tell equal elements apart passes as before
  pub list_any-dedup : (xs : List N) → list_any p (dedup E xs) ≡ list_any p xs
  list_any-dedup [] = refl
  list_any-dedup (x ∷ xs) = list_any-dedup_from x xs

length-dedup_from : {N : Type 0} (E : N → N → Bool) (k : N) (xs : List N) → 0 < length (dedup_from E k xs)
length-dedup_from E k [] = omega arith
length-dedup_from E k (x ∷ xs) = step (E x k) (length-dedup_from E k xs)
  where
    step : (b : Bool) → 0 < length (dedup_from E k xs) → 0 < length (cond b (dedup_from E k xs) (k ∷ dedup_from E x xs))
    step true h = h
    step false h = omega arith

-- what has an element keeps one
length-dedup : {N : Type 0} (E : N → N → Bool) (xs : List N) → 0 < length xs → 0 < length (dedup E xs)
length-dedup E [] h = absurd (omega arith)
length-dedup E (x ∷ xs) h = length-dedup_from E x xs

-- something is in a class that is made
pub filled : {P : Type 0} {N : Type 0} (E : N → N → Bool) (n : ℕ) (sorted : List N) → length sorted ≡ n → (0 < n) ⊎ P → (0 < length (dedup E sorted)) ⊎ P
filled E n sorted e (inl h) = inl (length-dedup E sorted (omega arith))
filled E n sorted e (inr p) = inr p

-- what is found, or not where it is excepted
pub found_or_not : (found except named : Bool) → found ≡ named → not (beq found except) ≡ cond except (not named) named
found_or_not true true true e = refl
found_or_not true false true e = refl
found_or_not false true false e = refl
found_or_not false false false e = refl
found_or_not true except false e = cc
found_or_not false except true e = cc

-- bisection finds exactly the names that are there
module _ {N : Type 0} {E : N → N → Bool} {R : N → N → Ordering} (o : IsTotalOrder R) (ties : (x y : N) → E x y ≡ eq_by_cmp R x y) where
  rises : (xs : List N) → IsStrictlySortedBy R xs → IsSorted R xs
  rises xs s k d low inside =
      ap is_lt (o.antisymm (get_or xs (k + 1) d) (get_or xs k d))
      ∙ ap (λ a. is_lt (ordering_reverse a)) (Less-from_sorted R xs k (k + 1) d s (omega arith) inside)

  pub bisected : (xs : List N) (x : N) (r : Result ℕ ℕ) → IsStrictlySortedBy R xs → IsSearchInRange r (length xs) → IsBinarySearchResult (λ y. R y x) xs r
      → is_ok r ≡ list_any (λ y. E y x) xs
  bisected xs x (Ok i) s inside found =
      sym (list_any_at (λ y. E y x) xs i x inside (ties (get_or xs i x) x ∙ ap is_eq (found x)))
  bisected xs x (Err i) s inside found =
      sym (list_any_none (λ y. E y x) xs (λ k d at. apart k d at (nat_lt k i) refl))
    where
      apart : (k : ℕ) (d : N) → k < length xs → (b : Bool) → nat_lt k i ≡ b → E (get_or xs k d) x ≡ false
      apart k d at true e = ties (get_or xs k d) x ∙ ap is_eq ((found (searchable_from_sorted o (λ y. y) xs x (rises xs s))).0 k d (omega arith) (ltb-true k i e))
      apart k d at false e = ties (get_or xs k d) x ∙ ap is_eq ((found (searchable_from_sorted o (λ y. y) xs x (rises xs s))).1 k d (ltb-false k i e) at)
