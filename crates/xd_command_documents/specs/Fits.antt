-- What `fits` answers, after the faults of the program.
use Rattle.std.specs.Prelude.{◌≡◌, ◌⊎◌, ℕ, true, false, List, [], ◌∷◌, None}
use Rattle.xd_doc.specs.Document.{Document, is_proper}
use Rattle.xd_syntax.specs.Tree.{Tree, Definitions}
use Rattle.xd_syntax.specs.Fits as types
use Rattle.xd_syntax.specs.Program.{ProgramTree, names_of}
use Rattle.xd_syntax.specs.Sound.{is_defined, type_named}
use Rattle.xd_syntax.specs.declared.fault.FaultKind.TheVariants.{NoSuchName}
use Rattle.xd_command_steps.specs.Output.{Output, yes, no, fault_lines}
use Rattle.xd_command_steps.specs.Step.{Step}
use Rattle.xd_command_steps.specs.Texts.{Holding}
use Rattle.xd_command_steps.specs.Documents.{EndsAtDocument, IsDocument}

-- a proper document that fits the type
pub record FitsType (E : Definitions) (T : Tree) (d : Document) : Type 0 where
  pub proper : is_proper d ≡ true
  pub fits : types.Fits E T d

-- no type has this name
abbrev pub EndsAtName : ProgramTree → (name : List ℕ) → Output → Type 0
EndsAtName P name o =
    (is_defined P name ≡ false) × (o ≡ fault_lines (record { place = None; kind = NoSuchName name } ∷ []))

-- whether the document fits the type
abbrev pub AnswersMembership : ProgramTree → (name : List ℕ) → Document → Output → Type 0
AnswersMembership P name d o =
    (types.Fits (names_of P) (type_named name) d × (o ≡ yes))
    ⊎ ((types.Fits (names_of P) (type_named name) d → ⊥) × (o ≡ no))

-- of a program without faults: the name, the document, and whether it fits
abbrev pub AnswersFits : Holding → (rose : Type 0) → (name document : List ℕ) → ProgramTree → Output → Type 0
AnswersFits holds rose name document P o =
    EndsAtName P name o
    ⊎ ((is_defined P name ≡ true)
    × Step (EndsAtDocument holds rose document) (IsDocument holds document) (AnswersMembership P name) o)
