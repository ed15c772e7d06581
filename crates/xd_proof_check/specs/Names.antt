-- Names that are added.
use Rattle.std.specs.Prelude.{◌≡◌, ◌||◌, ℕ, List}
use Rattle.xd_doc.specs.Classes.{is_named}

-- the new names are the old ones and these
abbrev pub AddsNames : List (List ℕ) → List (List ℕ) → List (List ℕ) → Type 0
AddsNames old more new = (l : List ℕ) → is_named new l ≡ (is_named old l || is_named more l)
