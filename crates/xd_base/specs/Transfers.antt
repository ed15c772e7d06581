-- What the fakes of the outside in memory give and take.
use Rattle.std.specs.Prelude.{◌≡◌, ℕ, ◌+◌, ◌-◌, ◌<◌, ◌≤◌, ◌^◌, List, length, take, min, Option, Some, None}
use Rattle.xd_base.specs.Outside.{HasGrown}

-- one more, as long as 64 bits have room
abbrev pub next_count : ℕ → ℕ
next_count n = min (n + 1) (2 ^ 64 - 1)

-- these bytes are the first of the text, at most so many
abbrev pub IsFrontOf : Option (List ℕ) → ℕ → List ℕ → Type 0
IsFrontOf (Some text) most bytes = bytes ≡ take most text
IsFrontOf None most bytes = ⊥

-- where the shelf tells, it holds the text, and these are its first bytes
abbrev pub GivesFront : Option (List ℕ → Option (List ℕ)) → List ℕ → ℕ → List ℕ → Type 0
GivesFront (Some texts) name most bytes = IsFrontOf (texts name) most bytes
GivesFront None name most bytes = Unit {0}

-- the first n bytes of a piece were taken, and at least one where the piece has one
pub record HasTaken (before after : Option (List ℕ)) (piece : List ℕ) (n : ℕ) : Type 0 where
  pub within : n ≤ length piece
  pub progress : 0 < length piece → 0 < n
  pub grown : HasGrown before after (take n piece)
