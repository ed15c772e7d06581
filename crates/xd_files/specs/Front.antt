-- What is taken from the front: of what a reader has left, and of a piece that is written.
use Rattle.std.specs.Prelude.{◌≡◌, ℕ, ◌≤◌, List, length, take, drop, Option, Some, None}
use Rattle.std.specs.Io.KnownBytes.{Appends}

-- where the reader tells what remains, these bytes are the first of it, and it has given just them;
-- they are fewer than `most` only if nothing remains
abbrev pub GivesFirst : Option (List ℕ) → Option (List ℕ) → ℕ → List ℕ → Type 0
GivesFirst (Some before) (Some after) most bytes = (bytes ≡ take most before) × (after ≡ drop most before)
GivesFirst (Some before) None most bytes = ⊥
GivesFirst None after most bytes = Unit {0}

-- where the writer tells what it holds, that has grown by bytes from the front of the piece
abbrev pub GrowsByFront : Option (List ℕ) → Option (List ℕ) → List ℕ → Type 0
GrowsByFront before after piece = (n : ℕ) × (n ≤ length piece) × Appends before after (take n piece)
