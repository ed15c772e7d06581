-- Types whose names a program defines, and their states.
use Rattle.std.specs.Prelude.{◌≡◌, Some}
use Rattle.xd_auto.specs.Automaton.{Automaton, IsState}
use Rattle.xd_auto.specs.declared.auto.State.{State}
use Rattle.xd_heads.specs.CellsView.{CellsView}
use Rattle.xd_heads.specs.Mirrors.{continuation_of}
use Rattle.xd_proof_make.specs.Made.{UsesDefined}
use Rattle.xd_syntax.specs.Kept.{ProgramTable, program_tree}
use Rattle.xd_syntax.specs.Tree.{Tree}
use Rattle.xd_syntax.specs.Types.{BelongsTo, tree}
use Rattle.xd_syntax.specs.declared.types.TypeId.{TypeId}

-- the type stands in the program's table, and uses names that the program defines
pub record IsKnownType (p : ProgramTable) (id : TypeId) : Type 0 where
  pub belongs : BelongsTo p.types id
  pub names : UsesDefined (program_tree p) (tree p.types id)

-- the state's continuation is such a type
pub record IsKnownState (p : ProgramTable) (c : CellsView) (a : Automaton) (s : State) : Type 0 where
  pub state : IsState a s
  pub T : Tree
  pub continuation : continuation_of p.types c s ≡ Some T
  pub names : UsesDefined (program_tree p) T
