-- What `run` answers, after the faults of names and of recursion.
use Rattle.std.specs.Prelude.{◌≡◌, ◌≢◌, ◌⊎◌, ◌≤◌, ◌-◌, ℕ, List, [], ◌∷◌, Option, Some, None}
use Rattle.xd_doc.specs.Document.{Document}
use Rattle.xd_syntax.specs.Words.{main_word}
use Rattle.xd_syntax.specs.Tree.{Tree}
use Rattle.xd_syntax.specs.Placed.{unplaced}
use Rattle.xd_syntax.specs.Fits.{Fits}
use Rattle.xd_syntax.specs.May.{FitsResult}
use Rattle.xd_syntax.specs.Program.{Parameter, FunctionDefinition, ProgramTree, names_of, function_of}
use Rattle.xd_syntax.specs.CheckFaults.{Line, AreLines, faults_among, IsAccepted}
use Rattle.xd_meaning.specs.Meaning.{Done, Spent, meaning}
use Rattle.xd_syntax.specs.declared.fault.FaultKind.TheVariants.{NoMain}
use Rattle.xd_command_steps.specs.Output.{Output, fault_lines, outside_input, fuel_spent, canonical}
use Rattle.xd_command_programs.specs.Report.{lines_text}
use Rattle.xd_command_steps.specs.Step.{Step}
use Rattle.xd_command_steps.specs.Texts.{Holding}
use Rattle.xd_command_steps.specs.Documents.{EndsAtDocument, IsDocument}

-- the declared type of the only parameter, places aside
abbrev pub only_declared : List Parameter → Option Tree
only_declared [] = None
only_declared (q ∷ []) = Some (unplaced q.declared)
only_declared (q ∷ (r ∷ qs)) = None

-- that of a function, if there is one
abbrev pub declared_input : Option FunctionDefinition → Option Tree
declared_input None = None
declared_input (Some f) = only_declared f.parameters

-- the declared type of the parameter of `main`, where it has one parameter
abbrev pub input_type : ProgramTree → Option Tree
input_type P = declared_input (function_of P.functions main_word)

-- all faults of matches, arguments and results, in order, without the warnings
pub record EndsAtLines (P : ProgramTree) (o : Output) : Type 0 where
  pub lines : List Line
  pub all : AreLines P lines
  pub some : faults_among lines ≢ []
  pub output : o ≡ record { status = 1; text = lines_text (faults_among lines) }

-- the program has no function `main` with one parameter
abbrev pub no_main : Output
no_main = fault_lines (record { place = None; kind = NoMain } ∷ [])

-- The document is outside the input type; or the program needs more calls.
abbrev pub EndsAtValue : ProgramTree → Tree → (fuel : ℕ) → Document → Output → Type 0
EndsAtValue P T fuel d o =
    ((Fits (names_of P) T d → ⊥) × (o ≡ outside_input))
    ⊎ (Fits (names_of P) T d × (meaning P fuel d ≡ Spent) × (o ≡ fuel_spent))

-- The value that the program means on the document, which is of the declared result type, and the
-- calls that it takes. That a match fails has no answer: it is neither this nor that more calls are
-- needed.
pub record IsValue (P : ProgramTree) (T : Tree) (fuel : ℕ) (d : Document) (made : Document × ℕ) : Type 0 where
  pub input : Fits (names_of P) T d
  pub calls : made.1 ≤ fuel
  pub value : meaning P fuel d ≡ Done made.0 (fuel - made.1)
  pub result : FitsResult (names_of P) (function_of P.functions main_word) made.0

-- what the program means on so many calls is written, where the document is an input
abbrev pub AnswersInput : ProgramTree → Tree → (fuel : ℕ) → Document → Output → Type 0
AnswersInput P T fuel d o =
    Step (EndsAtValue P T fuel d) (IsValue P T fuel d) (λ made o. o ≡ canonical made.0) o

-- of an accepted program: its input type, if it has one, and the document
abbrev pub AnswersMain :
    Holding → (rose : Type 0) → (document : List ℕ) → (fuel : ℕ) → ProgramTree → Option Tree → Output → Type 0
AnswersMain holds rose document fuel P None o = o ≡ no_main
AnswersMain holds rose document fuel P (Some T) o =
    Step (EndsAtDocument holds rose document) (IsDocument holds document) (AnswersInput P T fuel) o

-- of a program without faults of names and recursion: all its faults, and then the run
abbrev pub AnswersRun :
    Holding → (rose : Type 0) → (document : List ℕ) → (fuel : ℕ) → ProgramTree → Output → Type 0
AnswersRun holds rose document fuel P o =
    EndsAtLines P o ⊎ (IsAccepted P × AnswersMain holds rose document fuel P (input_type P) o)
