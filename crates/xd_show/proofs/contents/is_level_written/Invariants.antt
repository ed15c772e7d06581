use Rattle.std.proofs.Common.{◌≡◌, ℕ, ◌<◌, get_or}
use Rattle.std.specs.List.{AllByRecursion}
use Rattle.xd_auto.specs.Automaton.{moves_at}
use Rattle.xd_auto.specs.declared.auto.LabelMove.{LabelMove}
use Rattle.xd_auto.specs.declared.auto.State.{State}
use Rattle.xd_show_solve.specs.Levels.{IsWritten}
use Rattle.xd_show.proofs.contents.is_level_written.Given as goal

abbrev pub invariant-loop-number : goal.invariant-loop-number
invariant-loop-number l = (i : ℕ) (s : State) → i < l.number → s ≡ get_or l.states i s → AllByRecursion (λ (m : LabelMove). IsWritten l.written m.content) (moves_at l.auto' s).labels
