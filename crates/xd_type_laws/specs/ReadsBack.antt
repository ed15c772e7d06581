-- The text of definitions spells these definitions.
use Rattle.std.specs.Prelude.{◌≡◌, []}
use Rattle.xd_syntax.specs.Tree.{Definitions}
use Rattle.xd_syntax.specs.Program.{ProgramTree}
use Rattle.xd_parse_trees.specs.Means.{BytesSpellProgram}
use Rattle.xd_type_laws.specs.DefinitionsText.{type_definitions, definitions_text}

-- The text of these definitions spells a program of just these definitions, in order, places aside.
-- So by that program each name means what it means by these definitions.
pub record AreReadBack (ds : Definitions) : Type 0 where
  pub program : ProgramTree
  pub spelled : BytesSpellProgram (definitions_text ds) program
  pub types : type_definitions program ≡ ds
  pub functions : program.functions ≡ []
