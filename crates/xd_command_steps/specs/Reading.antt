-- Proofs as they are read, with their types in a program.
use Rattle.std.specs.Prelude.{ℕ, List}
use Rattle.xd_syntax.specs.Program.{ProgramTree}
use Rattle.xd_syntax.specs.Table.{Row}
use Rattle.xd_meaning.specs.Violation.{Lined}
use Rattle.xd_proof.specs.Goals.{AreGoalsAt}
use Rattle.xd_proof.specs.declared.proof.ProofGoal.{ProofGoal}
use Rattle.xd_command_steps.specs.Texts.{Holding, IsText, document_limit}
use Rattle.xd_command_steps.specs.Proofs.{HasGoals}

-- the goals of the bytes, with their types among these
abbrev pub IsRead : ProgramTree → List Row → (bytes : List ℕ) → List ProofGoal → Type 0
IsRead P types bytes proof = (goals : List Lined) × HasGoals P bytes goals × AreGoalsAt types proof goals

abbrev pub IsReadFrom : Holding → (file : List ℕ) → ProgramTree → List Row → List ProofGoal → Type 0
IsReadFrom holds file P types proof = (bytes : List ℕ) × IsText holds file document_limit bytes × IsRead P types bytes proof
