-- The states of types that are compared.
use Rattle.std.specs.Prelude.{◌≡◌, ◌↔◌, true, Some}
use Rattle.xd_auto.specs.Automaton.{Automaton, IsState, accepts}
use Rattle.xd_auto.specs.declared.auto.State.{State}
use Rattle.xd_doc.specs.Document.{Document}
use Rattle.xd_heads.specs.CellsView.{CellsView}
use Rattle.xd_heads.specs.Mirrors.{continuation_of}
use Rattle.xd_proof_make.specs.Made.{UsesDefined}
use Rattle.xd_syntax.specs.Fits.{Fits}
use Rattle.xd_syntax.specs.Kept.{ProgramTable, program_tree}
use Rattle.xd_syntax.specs.Program.{names_of}
use Rattle.xd_syntax.specs.Tree.{Tree}

-- the state accepts exactly what fits the type, which its cells know
pub record IsStateOf (p : ProgramTable) (c : CellsView) (a : Automaton) (T : Tree) (s : State) : Type 0 where
  pub state : IsState a s
  pub exact : (d : Document) → (accepts a d s ≡ true) ↔ Fits (names_of (program_tree p)) T d
  pub continuation : continuation_of p.types c s ≡ Some T

-- the same of a type of names that the program defines
pub record IsKnownState (p : ProgramTable) (c : CellsView) (a : Automaton) (s : State) : Type 0 where
  pub T : Tree
  pub stands : IsStateOf p c a T s
  pub names : UsesDefined (program_tree p) T
