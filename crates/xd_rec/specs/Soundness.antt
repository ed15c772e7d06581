-- What `well_formed` answers.
use Rattle.std.specs.Prelude.{◌≡◌, List, []}
use Rattle.xd_syntax.specs.Kept.{ProgramTable, program_tree}
use Rattle.xd_syntax.specs.Program.{ProgramTree}
use Rattle.xd_syntax.specs.declared.fault.Fault.{Fault}
use Rattle.xd_syntax.specs.RecursionFaults.{AreRecursionFaults}
use Rattle.xd_rec.specs.declared.Soundness.{Soundness}
use Rattle.xd_rec.specs.declared.Soundness.TheVariants.{Sound, Faults}

-- the given program, where it has no fault of recursion; else the list of these faults
abbrev pub IsSoundness : ProgramTable → Soundness → Type 0
IsSoundness p (Sound s) = (s ≡ p) × AreRecursionFaults (program_tree p) []
IsSoundness p (Faults fs) = (fs.items ≡ [] → ⊥) × AreRecursionFaults (program_tree p) fs.items

-- a program has one list of faults of recursion at most
abbrev pub FaultsAreOne : Type 0
FaultsAreOne = (P : ProgramTree) (fs gs : List Fault) → AreRecursionFaults P fs → AreRecursionFaults P gs → fs ≡ gs
