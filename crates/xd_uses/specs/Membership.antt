-- Whether a text is a document of a type.
use Rattle.std.specs.Prelude.{◌≡◌, ◌↔◌, ℕ, true, Bool, List}
use Rattle.xd_doc.specs.Document.{Document}
use Rattle.xd_read.specs.Reading.{BytesSpell}
use Rattle.xd_syntax.specs.Fits.{Fits}
use Rattle.xd_syntax.specs.Sound.{type_named}
use Rattle.xd_syntax.specs.Program.{ProgramTree, names_of}
use Rattle.xd_parse_trees.specs.Means.{IsProgramText}

-- whether the document that a text spells fits the type of a name
pub record TellsFit (definitions name text : List ℕ) (answer : Bool) : Type 0 where
  pub program : ProgramTree
  pub document : Document
  pub defined : IsProgramText definitions program
  pub spelled : BytesSpell text document
  pub told : (answer ≡ true) ↔ Fits (names_of program) (type_named name) document
