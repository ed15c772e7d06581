-- What is told of documents: for each the answer of `stream` to its bytes, behind its name.
use Rattle.std.specs.Prelude.{◌≡◌, ◌≢◌, ◌⊎◌, ◌≤◌, ◌<◌, ◌==◌, ◌||◌, ℕ, List, [], ◌∷◌, ◌++◌, Option, codes, cond, length, nat_lt}
use Rattle.xd_base.specs.Outside.{HasGrown, HasRisen, IsLacking}
use Rattle.xd_doc.specs.Document.{Document}
use Rattle.xd_stream.specs.declared.error.StreamError.TheVariants as errors
use Rattle.xd_command_steps.specs.Output.{Output, malformed_document, outside_type, yes}
use Rattle.xd_command_steps.specs.Texts.{Holding, IsHeld}
use Rattle.xd_command_documents.specs.Stream.{TellsStop}
use Rattle.xd_validate.specs.declared.reading.Ended.{Ended}
use Rattle.xd_validate.specs.declared.reading.Ended.TheVariants.{Accepted, Stopped, Unread}

-- an answer behind a name: `NAME: yes`, `NAME:LINE:COLUMN: outside the type`
abbrev pub named : (name : List ℕ) → Output → Output
named name o = record {
  status = o.status;
  text = name ++ (cond (o.status == 0) (codes ": ") (codes ":") ++ o.text);
}

-- the document of this name can't be read
abbrev pub unread : (name : List ℕ) → Output
unread name = record { status = 3; text = name ++ codes ": cannot be read\n" }

-- the same with more text behind it, as what may stand at a place
abbrev pub HasMore : Output → Output → Type 0
HasMore o p = (p.status ≡ o.status) × ((more : List ℕ) × (p.text ≡ o.text ++ more))

-- the answer behind the name; behind another answer than `yes` there may be more
abbrev pub IsNamed : (name : List ℕ) → (answer told : Output) → Type 0
IsNamed name answer o = (o ≡ named name answer) ⊎ ((answer.status ≢ 0) × HasMore (named name answer) o)

-- What is told of one document, where the count of faults rose or not: that it can't be read; or
-- the answer to its bytes. Where the source tells what it holds, these are all bytes of that name.
abbrev pub IsTold : (In : Document → Type 0) → Holding → (rose : Type 0) → (name : List ℕ) → Output → Type 0
IsTold In holds rose name o =
    ((rose ⊎ IsLacking holds name) × (o ≡ unread name))
    ⊎ ((bytes : List ℕ) × IsHeld holds name bytes
    × ((answer : Output) × TellsStop In bytes answer × IsNamed name answer o))

-- What is told of each, in order. The count of faults goes from one number to the other; for each
-- document it says by itself whether the count rose.
abbrev pub AreTold : (In : Document → Type 0) → Holding → (from till : ℕ) → (names : List (List ℕ)) → List Output → Type 0
AreTold In holds from till [] [] = from ≤ till
AreTold In holds from till [] (o ∷ os) = ⊥
AreTold In holds from till (n ∷ ns) [] = ⊥
AreTold In holds from till (n ∷ ns) (o ∷ os) =
    (next : ℕ) × (from ≤ next) × IsTold In holds (HasRisen from next) n o × AreTold In holds next till ns os

-- all lines, in order
abbrev pub text_of : List Output → List ℕ
text_of [] = []
text_of (o ∷ os) = o.text ++ text_of os

-- The status of both: 3 where one couldn't be read, else the greater. So a malformed document (7)
-- goes before one outside the type (6), and that before `yes` (0).
abbrev pub joined : ℕ → ℕ → ℕ
joined s t = cond (s == 3 || t == 3) 3 (cond (nat_lt s t) t s)

-- the status of all, where that of those before is known
abbrev pub status_from : ℕ → List Output → ℕ
status_from s [] = s
status_from s (o ∷ os) = status_from (joined s o.status) os

-- Of some of the documents, the first ones, it is told so much; the others weren't come to.
pub record IsToldSoFar (In : Document → Type 0) (holds : Holding) (from till : ℕ)
    (names : List (List ℕ)) (os : List Output) : Type 0 where
  pub done : List (List ℕ)
  pub others : List (List ℕ)
  pub split : names ≡ done ++ others
  pub told : AreTold In holds from till done os

-- the text isn't written whole, and the count of the sink's faults rose
abbrev pub IsCutOff : (rose : Type 0) → (before after : Option (List ℕ)) → (text : List ℕ) → Type 0
IsCutOff rose before after text =
    rose × ((front : List ℕ) × (rest : List ℕ)
    × (0 < length rest) × (text ≡ front ++ rest) × HasGrown before after front)

-- How the run over the documents ends, with what is written and the status: all is told; or up to
-- some document it is, and then memory ran out (5) or the output wasn't taken (4).
abbrev pub EndsAll :
    (In : Document → Type 0) → Holding → (from till : ℕ) → (sink_rose : Type 0) →
    (before after : Option (List ℕ)) → (names : List (List ℕ)) → (code : ℕ) → Type 0
EndsAll In holds from till sink_rose before after names code =
    ((os : List Output) × AreTold In holds from till names os × (code ≡ status_from 0 os) × HasGrown before after (text_of os))
    ⊎ ((os : List Output) × IsToldSoFar In holds from till names os × (
    ((code ≡ 5) × HasGrown before after (text_of os))
    ⊎ ((code ≡ 4) × IsCutOff sink_rose before after (text_of os))))

-- the lines of a document that was read so; running out of memory has none
abbrev pub IsLine : (name : List ℕ) → Ended → Output → Type 0
IsLine name Accepted o = o ≡ named name yes
IsLine name (Stopped (errors.Malformed p)) o = HasMore (named name (malformed_document p)) o
IsLine name (Stopped (errors.Outside p)) o = HasMore (named name (outside_type p)) o
IsLine name (Stopped errors.NoMemory) o = ⊥
IsLine name Unread o = o ≡ unread name
