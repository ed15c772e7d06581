-- On outcomes in a row.
use Rattle.std.proofs.Common.{◌≡◌, ℕ, refl}
use Rattle.xd_meaning.specs.Meaning.{Outcome, Done, Spent, Stuck, and_then}

pub then_then : {A B C : Type 0} (o : Outcome A) (f : A → ℕ → Outcome B) (g : B → ℕ → Outcome C) →
    and_then (and_then o f) g ≡ and_then o (λ a m. and_then (f a m) g)
then_then (Done a m) f g = refl
then_then Spent f g = refl
then_then Stuck f g = refl

pub then_same : {A B : Type 0} (o : Outcome A) (f g : A → ℕ → Outcome B) → ((a : A) (m : ℕ) → f a m ≡ g a m) → and_then o f ≡ and_then o g
then_same (Done a m) f g h = h a m
then_same Spent f g h = refl
then_same Stuck f g h = refl

pub then_done : {A : Type 0} (o : Outcome A) → and_then o Done ≡ o
then_done (Done a m) = refl
then_done Spent = refl
then_done Stuck = refl
