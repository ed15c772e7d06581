-- Bits, packed into words of 64.
use Rattle.std.specs.Prelude.{◌≡◌, ◌≢◌, ℕ, ◌/◌, ◌%◌, Bool, List, nat_eq, slice_index_or}
use Rattle.std.specs.Int.{bit_at}

-- bit i of the words; false after them
abbrev pub bit_of : List ℕ → ℕ → Bool
bit_of words i = nat_eq (bit_at (slice_index_or words (i / 64) 0) (i % 64)) 1

-- one bit has this value now, and each other bit has the one that it had
pub record SetsBit (i : ℕ) (value : Bool) (old new : List ℕ) : Type 0 where
  pub there : bit_of new i ≡ value
  pub others : (j : ℕ) → j ≢ i → bit_of new j ≡ bit_of old j
