use Rattle.std.proofs.Common.{◌<◌}
use Rattle.std.specs.List.{AllByRecursion}
use Rattle.xd_auto.specs.Automaton.{moves_at, state_number}
use Rattle.xd_auto.specs.declared.auto.LabelMove.{LabelMove}
use Rattle.xd_auto.specs.declared.auto.State.{State}
use Rattle.xd_show_solve.specs.Levels.{IsWritten}
use Rattle.xd_show.proofs.contents.are_all_written.Given as goal

abbrev pub invariant-loop-number : goal.invariant-loop-number
invariant-loop-number l = (s : State) → state_number s < l.number → AllByRecursion (λ (m : LabelMove). IsWritten l.written m.content) (moves_at l.auto' s).labels
