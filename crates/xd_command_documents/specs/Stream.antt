-- What `stream` answers, after the faults of the program.
use Rattle.std.specs.Prelude.{◌≡◌, ◌⊎◌, ℕ, true, List}
use Rattle.xd_base.specs.declared.Place.{Place}
use Rattle.xd_doc.specs.Document.{Document}
use Rattle.xd_stream.specs.Stop.{SpellsOneOf, StopsMalformed, StopsOutside}
use Rattle.xd_syntax.specs.Program.{ProgramTree, names_of}
use Rattle.xd_syntax.specs.Sound.{is_defined, type_named}
use Rattle.xd_command_steps.specs.Output.{Output, yes, malformed_document, outside_type}
use Rattle.xd_command_steps.specs.Step.{Step}
use Rattle.xd_command_steps.specs.Texts.{Holding, EndsAtText, IsText, document_limit}
use Rattle.xd_command_documents.specs.Fits.{EndsAtName, FitsType}

-- how many bytes a piece of a stream may have
abbrev pub piece_limit : ℕ
piece_limit = 65536

-- The bytes spell a document of the set; or up to their first stop no document goes on, or none of
-- the set.
abbrev pub TellsStop : (In : Document → Type 0) → List ℕ → Output → Type 0
TellsStop In bytes o =
    (SpellsOneOf In bytes × (o ≡ yes))
    ⊎ ((p : Place)
    × ((StopsMalformed In bytes p × (o ≡ malformed_document p))
    ⊎ (StopsOutside In bytes p × (o ≡ outside_type p))))

-- of a type that the program defines
abbrev pub AnswersBytes : ProgramTree → (name : List ℕ) → List ℕ → Output → Type 0
AnswersBytes P name bytes o = TellsStop (FitsType (names_of P) (type_named name)) bytes o

-- of a program without faults: the name, the document's text, its bytes
abbrev pub AnswersStream :
    Holding → (rose : Type 0) → (name document : List ℕ) → ProgramTree → Output → Type 0
AnswersStream holds rose name document P o =
    EndsAtName P name o
    ⊎ ((is_defined P name ≡ true)
    × Step (EndsAtText holds rose document document_limit) (IsText holds document document_limit)
    (AnswersBytes P name) o)
