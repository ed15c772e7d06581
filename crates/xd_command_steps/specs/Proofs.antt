-- The step that reads a proof text.
use Rattle.std.specs.Prelude.{◌≡◌, ◌⊎◌, ℕ, List, ◌++◌, codes, decimal}
use Rattle.xd_syntax.specs.NameFaults.{known_types}
use Rattle.xd_syntax.specs.Program.{ProgramTree}
use Rattle.xd_meaning.specs.Violation.{Lined, Reason, bad_form, bad_empty, bad_case, bad_split, bad_leaf}
use Rattle.xd_proof.specs.Form.{IsProofText, IsFirstBadLine}
use Rattle.xd_proof.specs.TypeTexts.{SpellsType}
use Rattle.xd_command_steps.specs.Output.{Output}
use Rattle.xd_command_steps.specs.Texts.{Holding, EndsAtText, IsText, document_limit}

-- the bytes are a proof text over the types of the program, with these goals
abbrev pub HasGoals : ProgramTree → List ℕ → List Lined → Type 0
HasGoals P bytes goals = IsProofText (SpellsType (known_types P)) bytes goals

-- what is wrong with a line, in words
abbrev pub reason_text : Reason → List ℕ
reason_text bad_form = codes "reason 1: form"
reason_text bad_empty = codes "reason 2: empty"
reason_text bad_case = codes "reason 3: case"
reason_text bad_split = codes "reason 4: split"
reason_text bad_leaf = codes "reason 5: leaf"

-- the first bad line of a proof text, and why it is bad
abbrev pub bad_line : ℕ → Reason → Output
bad_line n reason = record {
  status = 6;
  text = codes "line " ++ (decimal n ++ (codes ": " ++ (reason_text reason ++ codes "\n")));
}

-- the bytes are no proof text
abbrev pub EndsAtForm : ProgramTree → (bytes : List ℕ) → Output → Type 0
EndsAtForm P bytes o =
    (n : ℕ) × IsFirstBadLine (SpellsType (known_types P)) bytes n × (o ≡ bad_line n bad_form)

-- the file has no proof text
abbrev pub EndsAtProof : Holding → (rose : Type 0) → (file : List ℕ) → ProgramTree → Output → Type 0
EndsAtProof holds rose file P o =
    EndsAtText holds rose file document_limit o
    ⊎ ((bytes : List ℕ) × IsText holds file document_limit bytes × EndsAtForm P bytes o)

-- the file has a text of a proof with these goals
abbrev pub IsProof : Holding → (file : List ℕ) → ProgramTree → List Lined → Type 0
IsProof holds file P goals =
    (bytes : List ℕ) × IsText holds file document_limit bytes × HasGoals P bytes goals
