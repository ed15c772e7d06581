-- What a check gives.
use Rattle.std.specs.Prelude.{◌≡◌, List, []}
use Rattle.xd_doc.specs.Document.{Document}
use Rattle.xd_doc.specs.LeastUpTo.{size_up_to}
use Rattle.xd_least.specs.Least.{size_limit}
use Rattle.xd_syntax.specs.CheckFaults.{Line, AreLines, AreLinesBy, faults_among}
use Rattle.xd_syntax.specs.Kept.{ProgramTable, AddsTypes, program_tree}
use Rattle.xd_meaning.specs.KeptFaults.{AreFaultsOf, AreWarningsOf}
use Rattle.xd_syntax.specs.Program.{ProgramTree}
use Rattle.xd_check_steps.specs.declared.lines.Told.{Told}
use Rattle.xd_check.specs.declared.outcome.CheckOutcome.{CheckOutcome}
use Rattle.xd_check.specs.declared.outcome.CheckOutcome.TheVariants.{Accepted, Refused}

-- these are all lines of the program, as faults and as warnings
abbrev pub AreTold : ProgramTree → List Document → Told → Type 0
AreTold P ds told = (ls : List Line) × AreLinesBy (size_up_to size_limit) P ls × AreFaultsOf ds ls told.faults.items × AreWarningsOf ls told.warnings.items

-- All lines of the program, told as faults and warnings, with the documents in the store. A program
-- is accepted exactly where it has no fault; then it is the given one, to which types alone were
-- added. Sizes of documents are told apart below 2^63 alone: a document of that size or more has no
-- text that a vector can hold, though the store can hold it.
abbrev pub IsOutcome : ProgramTable → List Document → CheckOutcome → Type 0
IsOutcome p ds (Accepted checked warnings) =
    (ls : List Line) × AreLines (program_tree p) ls × (faults_among ls ≡ []) × AreWarningsOf ls warnings.items
    × AddsTypes p checked × (program_tree checked ≡ program_tree p)
IsOutcome p ds (Refused faults warnings) =
    (ls : List Line) × AreLinesBy (size_up_to size_limit) (program_tree p) ls × (faults_among ls ≡ [] → ⊥) × AreFaultsOf ds ls faults.items × AreWarningsOf ls warnings.items
