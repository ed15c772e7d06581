-- What `check` answers, after the faults of names and of recursion.
use Rattle.std.specs.Prelude.{◌≡◌, ℕ, List, [], ◌∷◌, ◌++◌, codes}
use Rattle.xd_syntax.specs.Program.{ProgramTree}
use Rattle.xd_syntax.specs.CheckFaults.{Line, AreLines, IsAccepted, faults_among}
use Rattle.xd_command_steps.specs.Output.{Output}
use Rattle.xd_command_programs.specs.Report.{lines_text}

-- the text of the lines, and `accepted` where none of them is a fault
abbrev pub with_verdict : (faults : List Line) → (text : List ℕ) → Output
with_verdict [] text = record { status = 0; text = text ++ codes "accepted\n" }
with_verdict (f ∷ fs) text = record { status = 1; text = text }

-- all faults of matches, arguments and results, and all warnings, in order
pub record AnswersCheck (P : ProgramTree) (o : Output) : Type 0 where
  pub lines : List Line
  pub all : AreLines P lines
  pub output : o ≡ with_verdict (faults_among lines) (lines_text lines)

-- the program isn't accepted, and these are its faults and warnings
abbrev pub EndsAtCheck : ProgramTree → Output → Type 0
EndsAtCheck P o = (IsAccepted P → ⊥) × AnswersCheck P o
