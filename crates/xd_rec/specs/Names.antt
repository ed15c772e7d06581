-- Definitions of types by name.
use Rattle.std.specs.Prelude.{◌≡◌, ◌<◌, ℕ, length, get_or, List, map, Some}
use Rattle.xd_syntax.specs.Table.{Row}
use Rattle.xd_syntax.specs.Program.{FunctionDefinition, ProgramTree}
use Rattle.xd_syntax.specs.Kept.{type_definition}
use Rattle.xd_sound.specs.TypeNames.{first_of}
use Rattle.xd_syntax.specs.declared.types.TypeDef.{TypeDef}

-- each definition is the first of its name
abbrev pub AreUnique : List TypeDef → Type 0
AreUnique ds = (k : ℕ) (d : TypeDef) → k < length ds → first_of ds (get_or ds k d).name ≡ Some k

-- a program with these definitions of types
abbrev pub program_of : List Row → List TypeDef → List FunctionDefinition → ProgramTree
program_of types ds fs = record { types = map (type_definition types) ds; functions = fs }
