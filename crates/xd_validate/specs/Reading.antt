-- What a source gives of its documents.
use Rattle.std.specs.Prelude.{◌≡◌, ℕ, List, Option, Some, None, length}
use Rattle.std.specs.Io.KnownBytes.{Consumes, IsAtEnd}

-- where the source tells what it holds, what is left of the open document is the text of this name
abbrev pub IsOpened : Option (List ℕ → Option (List ℕ)) → (name : List ℕ) → Option (List ℕ) → Type 0
IsOpened (Some texts) name (Some rest) = texts name ≡ Some rest
IsOpened (Some texts) name None = ⊥
IsOpened None name rest = Unit {0}

-- these bytes are the next of what is left; none are, only if nothing is left
pub record GivesNext (before after : Option (List ℕ)) (bytes : List ℕ) : Type 0 where
  pub consumes : Consumes before after bytes
  pub end : length bytes ≡ 0 → IsAtEnd after

-- where it is told what is left, it is these bytes, and no others
abbrev pub IsAllOf : Option (List ℕ) → List ℕ → Type 0
IsAllOf (Some left) bytes = left ≡ bytes
IsAllOf None bytes = Unit {0}
