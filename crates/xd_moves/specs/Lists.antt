-- Lists by their numbers.
use Rattle.std.specs.Prelude.{◌≡◌, ℕ, ◌+◌, ◌<◌, ◌⊎◌, List, [], ◌∷◌, ◌++◌, length, Some, Vec}
use Rattle.std.specs.List.{slice_get}
use Rattle.xd_doc.specs.Members.{IsOneOf}

-- the lists that these vectors hold
abbrev pub lists_of : {A : Type 0} → List (Vec ℕ A) → List (List ℕ)
lists_of [] = []
lists_of (v ∷ vs) = v.items ∷ lists_of vs

-- none stands twice
abbrev pub StandOnce : List (List ℕ) → Type 0
StandOnce [] = Unit {0}
StandOnce (l ∷ ls) = (IsOneOf l ls → ⊥) × StandOnce ls

-- old lists stand where they stood
pub record KeepsLists (old new : List (List ℕ)) : Type 0 where
  pub more : List (List ℕ)
  pub grown : new ≡ old ++ more

-- the list has this number: it stands at this position
abbrev pub HasNumber : List (List ℕ) → List ℕ → ℕ → Type 0
HasNumber lists xs n = slice_get lists n ≡ Some xs

-- the number is that of an old list, and then no list is added, or of the only new one
abbrev pub AddsList : List (List ℕ) → List (List ℕ) → ℕ → Type 0
AddsList old new n = ((n < length old) × (new ≡ old)) ⊎ ((n ≡ length old) × (length new ≡ length old + 1))
