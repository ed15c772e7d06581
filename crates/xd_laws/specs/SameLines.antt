-- A program has one list of lines, but for the documents that they carry, and these have the same
-- sizes.
use Rattle.std.specs.Prelude.{◌≡◌, List, option_map}
use Rattle.xd_doc.specs.Document.{size}
use Rattle.xd_syntax.specs.Program.{ProgramTree}
use Rattle.xd_syntax.specs.CheckFaults.{Line, AreLines}
use Rattle.xd_meaning.specs.KeptFaults.{AllPaired}

-- the place and what is said are the same, and both carry a document, of the same size, or none
-- does
pub record IsSameLine (l m : Line) : Type 0 where
  pub place : l.place ≡ m.place
  pub kind : l.kind ≡ m.kind
  pub carries : option_map size l.document ≡ option_map size m.document

abbrev pub LinesAreOne : Type 0
LinesAreOne = (P : ProgramTree) (ls ms : List Line) → AreLines P ls → AreLines P ms → AllPaired IsSameLine ls ms
