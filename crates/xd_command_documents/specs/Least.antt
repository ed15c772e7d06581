-- What `least` answers, after the faults of the program.
use Rattle.std.specs.Prelude.{◌≡◌, ◌⊎◌, ℕ, true, List}
use Rattle.xd_doc.specs.Document.{Document}
use Rattle.xd_doc.specs.Least.{IsLeast}
use Rattle.xd_syntax.specs.Tree.{Tree, Definitions}
use Rattle.xd_syntax.specs.Program.{ProgramTree, names_of}
use Rattle.xd_syntax.specs.Sound.{is_defined, type_named}
use Rattle.xd_command_steps.specs.Output.{Output, canonical, no}
use Rattle.xd_command_documents.specs.Fits.{EndsAtName, FitsType}

-- A least document of those that fit the type is written; or no document fits it.
abbrev pub AnswersLeastOf : Definitions → Tree → Output → Type 0
AnswersLeastOf E T o =
    ((d : Document) × IsLeast (FitsType E T) d × (o ≡ canonical d))
    ⊎ (((d : Document) → FitsType E T d → ⊥) × (o ≡ no))

-- of a program without faults: the name, and a least document of the type
abbrev pub AnswersLeast : (name : List ℕ) → ProgramTree → Output → Type 0
AnswersLeast name P o =
    EndsAtName P name o
    ⊎ ((is_defined P name ≡ true) × AnswersLeastOf (names_of P) (type_named name) o)
