-- The step that reads a text from the shelf.
use Rattle.std.specs.Prelude.{◌≡◌, ℕ, ◌^◌, ◌<◌, ◌≤◌, ◌⊎◌, List, length, Option, Some, None}
use Rattle.xd_base.specs.Outside.{IsLacking}
use Rattle.xd_command_steps.specs.Output.{Output, cannot_read, too_long}

-- how many bytes the text of a program may have
abbrev pub program_limit : ℕ
program_limit = 2 ^ 20

-- how many bytes the text of a document, or of a proof, may have
abbrev pub document_limit : ℕ
document_limit = 2 ^ 24

-- the texts of a shelf by their names, where it tells what it holds
abbrev pub Holding : Type 0
Holding = Option (List ℕ → Option (List ℕ))

-- the text of this name: where the shelf tells, the one that it holds; else any
abbrev pub IsHeld : Holding → (name text : List ℕ) → Type 0
IsHeld (Some texts) name text = texts name ≡ Some text
IsHeld None name text = Unit {0}

-- The text can't be read, as the count of the shelf's faults rose or the shelf tells that it lacks
-- it; or it is longer than the limit.
abbrev pub EndsAtText : Holding → (rose : Type 0) → (name : List ℕ) → (limit : ℕ) → Output → Type 0
EndsAtText holds rose name limit o =
    ((rose ⊎ IsLacking holds name) × (o ≡ cannot_read name))
    ⊎ ((text : List ℕ) × IsHeld holds name text × (limit < length text) × (o ≡ too_long name))

-- the text of this name, no longer than the limit
abbrev pub IsText : Holding → (name : List ℕ) → (limit : ℕ) → (text : List ℕ) → Type 0
IsText holds name limit text = IsHeld holds name text × (length text ≤ limit)
