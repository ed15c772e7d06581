-- The outputs of the command: each is a text that is written whole, with the status that goes with
-- it. Each text ends with a line feed.
use Rattle.std.specs.Prelude.{◌≡◌, ℕ, ◌<◌, ◌⊎◌, List, [], ◌++◌, length, Option, codes, decimal, flat_map}
use Rattle.xd_base.specs.Outside.{HasGrown}
use Rattle.xd_base.specs.declared.Place.{Place}
use Rattle.xd_doc.specs.Document.{Document, canonical_text}
use Rattle.xd_syntax.specs.declared.fault.Fault.{Fault}
use Rattle.xd_report.specs.Report.{fault_text, place_front}

-- an exit status, and the text that goes with it
pub record Output : Type 0 where
  pub status : ℕ
  pub text : List ℕ

-- the document fits, or the inclusion holds
abbrev pub yes : Output
yes = record { status = 0; text = codes "yes\n" }

-- the canonical text of a document
abbrev pub canonical : Document → Output
canonical d = record { status = 0; text = canonical_text d ++ codes "\n" }

-- what became of a sample: its persons, how long the texts of its document and of the value are,
-- and how many calls were made
abbrev pub summary : (persons document result calls : ℕ) → Output
summary persons document result calls = record {
  status = 0;
  text =
      codes "persons "
      ++ (decimal persons
      ++ (codes "\ndocument "
      ++ (decimal document
      ++ (codes "\nresult " ++ (decimal result ++ (codes "\ncalls " ++ (decimal calls ++ codes "\n")))))));
}

-- faults that carry no documents, each on a line
abbrev pub fault_lines : List Fault → Output
fault_lines fs = record { status = 1; text = flat_map (fault_text []) fs }

-- the words are no command's
abbrev pub usage : Output
usage = record { status = 2; text = codes "usage: xduce COMMAND WORDS\n" }

-- a text can't be read
abbrev pub cannot_read : List ℕ → Output
cannot_read name = record { status = 3; text = codes "cannot read " ++ name ++ codes "\n" }

-- the document doesn't fit
abbrev pub no : Output
no = record { status = 6; text = codes "no\n" }

-- the inclusion doesn't hold: the left has this document, and the right doesn't
abbrev pub separated : Document → Output
separated d = record { status = 6; text = codes "no: " ++ canonical_text d ++ codes "\n" }

-- the token at this place belongs to no document
abbrev pub malformed_document : Place → Output
malformed_document p = record { status = 7; text = place_front p ++ codes "malformed document\n" }

-- up to the token at this place a document goes on, but none of the type
abbrev pub outside_type : Place → Output
outside_type p = record { status = 6; text = place_front p ++ codes "outside the type\n" }

-- the document is none of the input type
abbrev pub outside_input : Output
outside_input = record { status = 8; text = codes "outside the input type\n" }

-- the run wanted more calls than it may make
abbrev pub fuel_spent : Output
fuel_spent = record { status = 9; text = codes "fuel spent\n" }

-- a text is longer than its limit
abbrev pub too_long : List ℕ → Output
too_long name = record { status = 10; text = codes "too long: " ++ name ++ codes "\n" }

-- The output is written whole, with its status; or the count of the sink's faults rose, and a
-- proper prefix of its text is.
abbrev pub IsSent : Output → (rose : Type 0) → (before after : Option (List ℕ)) → ℕ → Type 0
IsSent o rose before after code =
    ((code ≡ o.status) × HasGrown before after o.text)
    ⊎ ((code ≡ 4) × rose
    × ((front : List ℕ) × (rest : List ℕ)
    × (0 < length rest) × (o.text ≡ front ++ rest) × HasGrown before after front))
