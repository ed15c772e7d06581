-- The step that reads a document.
use Rattle.std.specs.Prelude.{◌≡◌, ◌⊎◌, ℕ, List}
use Rattle.xd_base.specs.declared.Place.{Place}
use Rattle.xd_doc.specs.Document.{Document}
use Rattle.xd_read.specs.Reading.{BytesSpell, IsMalformedAt, SpellsNothing}
use Rattle.xd_command_steps.specs.Output.{Output, malformed_document}
use Rattle.xd_command_steps.specs.Texts.{Holding, EndsAtText, IsText, document_limit}

-- the bytes spell no document, and this is the place of the first token that none goes on with
abbrev pub EndsAtMalformed : (bytes : List ℕ) → Output → Type 0
EndsAtMalformed bytes o =
    (p : Place) × SpellsNothing bytes × IsMalformedAt bytes p × (o ≡ malformed_document p)

-- the file has no text of a document
abbrev pub EndsAtDocument : Holding → (rose : Type 0) → (file : List ℕ) → Output → Type 0
EndsAtDocument holds rose file o =
    EndsAtText holds rose file document_limit o
    ⊎ ((bytes : List ℕ) × IsText holds file document_limit bytes × EndsAtMalformed bytes o)

-- the file has a text of this document
abbrev pub IsDocument : Holding → (file : List ℕ) → Document → Type 0
IsDocument holds file d = (bytes : List ℕ) × IsText holds file document_limit bytes × BytesSpell bytes d
