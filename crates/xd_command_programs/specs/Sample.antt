-- What `sample` answers: how long a document of so many persons is, and how long the names and
-- telephones of those that have one; and a call of the telephone program for each person, and one
-- for the end.
use Rattle.std.specs.Prelude.{◌≡◌, ℕ, ◌+◌, length}
use Rattle.xd_doc.specs.Document.{canonical_text}
use Rattle.xd_command_sample.specs.Persons.{sample_of, telephones_to}
use Rattle.xd_command_steps.specs.Output.{Output, summary}

-- how many persons a sample may have
abbrev pub sample_limit : ℕ
sample_limit = 2000

-- of so many persons
abbrev pub AnswersSample : (persons : ℕ) → Output → Type 0
AnswersSample persons o =
    o
    ≡ summary persons (length (canonical_text (sample_of persons)))
    (length (canonical_text (telephones_to persons))) (persons + 1)
