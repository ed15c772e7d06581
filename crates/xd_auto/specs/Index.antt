-- How a state's moves are found by what their classes name.
use Rattle.std.specs.Prelude.{◌≡◌, ℕ, ◌<◌, ◌≤◌, ◌⊎◌, Bool, true, List, [], length, slice_index_or, Option, Some, None, Vec, Contains}
use Rattle.std.specs.List.{All}
use Rattle.std.specs.List.Sorted.{IsNonDecreasing}
use Rattle.std.specs.declared.cmp.Ordering.{Ordering}
use Rattle.std.specs.BTreeMap.{BTreeMap, get}

abbrev pub numbers_of : {A : Type 0} → Option (Vec ℕ A) → List ℕ
numbers_of None = []
numbers_of (Some numbers) = numbers.items

-- the numbers under a name
abbrev pub numbers_at : {N A : Type 0} → (N → N → Ordering) → BTreeMap N (Vec ℕ A) → N → List ℕ
numbers_at cmp named name = numbers_of (get cmp named name)

-- the numbers never fall, and are at most n
pub record RisesTo (n : ℕ) (numbers : List ℕ) : Type 0 where
  pub rises : IsNonDecreasing numbers
  pub most : All (λ k. k ≤ n) numbers

-- no number is lost, and those that rose to n still do
pub record AddsTo (n : ℕ) (old new : List ℕ) : Type 0 where
  pub keeps : (k : ℕ) → Contains old k → Contains new k
  pub rises : RisesTo n old → RisesTo n new

-- of the first moves, so many, each stands under each name that it has, or among the others
pub record IsIndex {M N : Type 0} (has : M → N → Bool) (moves : List M) (count : ℕ) (named : N → List ℕ) (others : List ℕ) : Type 0 where
  pub within : count ≤ length moves
  pub named_rise : (name : N) → RisesTo count (named name)
  pub others_rise : RisesTo count others
  pub listed : (k : ℕ) (d : M) (name : N) → k < count → has (slice_index_or moves k d) name ≡ true → Contains (named name) k ⊎ Contains others k
