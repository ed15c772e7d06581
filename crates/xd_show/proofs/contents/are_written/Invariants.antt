use Rattle.std.proofs.Common.{take}
use Rattle.std.specs.List.{AllByRecursion}
use Rattle.xd_auto.specs.declared.auto.LabelMove.{LabelMove}
use Rattle.xd_show_solve.specs.Levels.{IsWritten}
use Rattle.xd_show.proofs.contents.are_written.Given as goal

abbrev pub invariant-loop-step : goal.invariant-loop-step
invariant-loop-step l = AllByRecursion (λ (m : LabelMove). IsWritten l.written m.content) (take l.step-index l.moves)
