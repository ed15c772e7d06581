-- How often each word occurs.
use Rattle.std.specs.Prelude.{◌≡◌, ℕ, ◌+◌, cond, List, [], ◌∷◌, unwrap_or}
use Rattle.std.specs.BTreeMap.{BTreeMap, get}
use Rattle.std.specs.Ordering.{nat_cmp}
use Rattle.std.specs.Cmp.Lexicographic.{slice_cmp}
use Rattle.std.specs.Str.{bytes_eq}

abbrev pub occurrences : List (List ℕ) → List ℕ → ℕ
occurrences [] w = 0
occurrences (x ∷ xs) w = cond (bytes_eq x w) 1 0 + occurrences xs w

-- the map has the number of a word's occurrences in the list, or nothing for a word that is not
-- there
abbrev pub AreCounted : BTreeMap (List ℕ) ℕ → List (List ℕ) → Type 0
AreCounted m xs = (w : List ℕ) → unwrap_or (get (slice_cmp nat_cmp) m w) 0 ≡ occurrences xs w
