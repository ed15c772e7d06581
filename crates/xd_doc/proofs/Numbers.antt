-- On numbers.
use Rattle.std.proofs.Common.{ℕ, ◌<◌, ◌≤◌, ◌⊎◌, arith, ◌≡◌, true, nat_eq, ◌+◌, inl, inr, refl}
use Rattle.std.proofs.lemmas.Bool.{cases_lt, eq-eqb}
use Rattle.std.proofs.lemmas.Bool.Decides.{nat_tests}

pub below_or_from : (i n : ℕ) → (i < n) ⊎ (n ≤ i)
below_or_from i n = grind arith

pub same_number : (m n : ℕ) → nat_eq m n ≡ true → m ≡ n
same_number m n e = grind arith

pub le_lt : (m n o : ℕ) → m ≤ n → n < o → m < o
le_lt m n o a b = omega arith

pub less_cases : (j n : ℕ) → j < n + 1 → (j < n) ⊎ (j ≡ n)
less_cases j n h = elim (cases_lt j n) [ inl l ↦ inl l | inr l ↦ inr (omega arith) ]

pub number_same : (m n : ℕ) → nat_eq m n ≡ true → n ≡ m
number_same m n h = grind (arith, nat_tests)

pub same_eq : (n : ℕ) → nat_eq n n ≡ true
same_eq n = eq-eqb n n refl

pub itself : (n : ℕ) → n ≤ n
itself n = omega arith

pub le_suc : (m : ℕ) → m ≤ m + 1
le_suc m = omega arith
