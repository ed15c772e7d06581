-- Types of a program by name.
use Rattle.std.specs.Prelude.{ℕ, Bool, cond, ◌||◌, List}
use Rattle.std.specs.Str.{bytes_eq}
use Rattle.xd_syntax.specs.Words.{has_word, string_word}
use Rattle.xd_syntax.specs.Tree.{Tree, Text, Name}
use Rattle.xd_syntax.specs.Program.{ProgramTree}
use Rattle.xd_syntax.specs.NameFaults.{known_types}

-- the type that a word names
abbrev pub type_named : List ℕ → Tree
type_named w = cond (bytes_eq string_word w) Text (Name w)

-- `String`, `Any` and the types that the program defines
abbrev pub is_defined : ProgramTree → List ℕ → Bool
is_defined p w = bytes_eq string_word w || has_word (known_types p) w
