-- The text of definitions of types, in bytes.
use Rattle.std.specs.Prelude.{ℕ, List, ◌++◌, map, flat_map, codes}
use Rattle.xd_syntax.specs.Tree.{Tree, Definitions}
use Rattle.xd_syntax.specs.TypeText.{type_text}
use Rattle.xd_syntax.specs.Placed.{unplaced}
use Rattle.xd_syntax.specs.Program.{ProgramTree}

-- the types that a program defines, places aside
abbrev pub type_definitions : ProgramTree → Definitions
type_definitions p = map (λ t. (t.name, unplaced t.body)) p.types

-- a line for a definition
abbrev pub definition_line : List ℕ × Tree → List ℕ
definition_line d = codes "type " ++ d.0 ++ codes " = " ++ type_text d.1 ++ codes "\n"

-- a line for each, in order
abbrev pub definitions_text : Definitions → List ℕ
definitions_text ds = flat_map definition_line ds
