-- What `check` answers of a program that isn't accepted, by its lists of faults and warnings.
use Rattle.std.specs.Prelude.{◌≡◌, List, []}
use Rattle.xd_doc.specs.Document.{Document}
use Rattle.xd_doc.specs.LeastUpTo.{size_up_to}
use Rattle.xd_least.specs.Least.{size_limit}
use Rattle.xd_meaning.specs.KeptFaults.{AreFaultsOf, AreWarningsOf}
use Rattle.xd_syntax.specs.Program.{ProgramTree}
use Rattle.xd_syntax.specs.CheckFaults.{Line, AreLinesBy, faults_among}
use Rattle.xd_syntax.specs.declared.fault.Fault.{Fault}
use Rattle.xd_syntax.specs.declared.fault.Warning.{Warning}

-- these faults and warnings are all lines of the program, and some of them is a fault
pub record AreRefused (P : ProgramTree) (ds : List Document) (fs : List Fault) (ws : List Warning) : Type 0 where
  pub lines : List Line
  pub all : AreLinesBy (size_up_to size_limit) P lines
  pub some : faults_among lines ≡ [] → ⊥
  pub faults : AreFaultsOf ds lines fs
  pub warnings : AreWarningsOf lines ws
