-- States of types.
use Rattle.std.proofs.Common.{◌≡◌, ℕ, List, Option, Some, None, refl}
use Rattle.xd_auto.specs.declared.auto.State.{State}
use Rattle.xd_auto.specs.Automaton.{state_number}
use Rattle.xd_syntax.specs.Table.{Row}
use Rattle.xd_syntax.specs.Tree.{Tree}
use Rattle.xd_heads.specs.CellsView.{CellsView}
use Rattle.xd_heads.specs.Compiled.{numbered}
use Rattle.xd_heads.specs.Mirrors.{IsTypeState, as_type, continuation_of}
use Rattle.xd_heads.specs.States.{number_at}

some_number : (types : List Row) (c : CellsView) (o : Option ℕ) (T : Tree) → as_type (numbered types c.cells o) ≡ Some T → (n : ℕ) × (o ≡ Some n)
some_number types c None T e = absurd (cc)
some_number types c (Some n) T e = (n, refl)

-- a state with a continuation is one of a type
pub is_type_state : (types : List Row) (c : CellsView) (s : State) {T : Tree} → continuation_of types c s ≡ Some T → IsTypeState c s
is_type_state types c s {T} e = some_number types c (number_at c.states (state_number s)) T e
