-- The words of a line.
use Rattle.std.specs.Prelude.{◌≡◌, ℕ, ◌<◌, List, length}
use Rattle.std.specs.List.{AllByRecursion}
use Rattle.xd_proof.specs.Lines.{IsFreeOf, space, spaced}

-- the line is these words, one at least; two spaces in a row have an empty word between them
pub record AreWords (line : List ℕ) (words : List (List ℕ)) : Type 0 where
  pub whole : line ≡ spaced words
  pub free : AllByRecursion (IsFreeOf space) words
  pub some : 0 < length words
