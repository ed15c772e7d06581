-- Words with a meaning of their own.
use Rattle.std.specs.Prelude.{ℕ, Bool, false, ◌||◌, List, [], ◌∷◌, codes}
use Rattle.std.specs.Str.{bytes_eq}

-- a word is one of these
abbrev pub has_word : List (List ℕ) → List ℕ → Bool
has_word [] w = false
has_word (x ∷ xs) w = bytes_eq x w || has_word xs w

-- the name of the type of all documents
abbrev pub any_word : List ℕ
any_word = codes "Any"

-- the name of the type of all texts
abbrev pub string_word : List ℕ
string_word = codes "String"

-- the name of the function that a run calls
abbrev pub main_word : List ℕ
main_word = codes "main"
