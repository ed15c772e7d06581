-- Which moves share a name with a move.
use Rattle.std.specs.Prelude.{◌≡◌, ℕ, ◌<◌, ◌⊎◌, Bool, true, List, Contains, length, slice_index_or}
use Rattle.std.specs.List.{All}
use Rattle.std.specs.List.Sorted.{IsStrictlyIncreasing}

-- numbers of moves, in order and each once: all that share a name with this one are among them
pub record AreMatching {M N : Type 0} (has : M → N → Bool) (step : M) (moves : List M) (numbers : List ℕ) : Type 0 where
  pub rise : IsStrictlyIncreasing numbers
  pub within : All (λ k. k < length moves) numbers
  pub cover : (k : ℕ) (d : M) (name : N) → k < length moves → has step name ≡ true → has (slice_index_or moves k d) name ≡ true → Contains numbers k

-- the numbers of the moves that have the name were added
pub record AddsMatching {M N : Type 0} (has : M → N → Bool) (moves : List M) (name : N) (old new : List ℕ) : Type 0 where
  pub keeps : (k : ℕ) → Contains old k → Contains new k
  pub within : (k : ℕ) → Contains new k → Contains old k ⊎ (k < length moves)
  pub covers : (k : ℕ) (d : M) → k < length moves → has (slice_index_or moves k d) name ≡ true → Contains new k
