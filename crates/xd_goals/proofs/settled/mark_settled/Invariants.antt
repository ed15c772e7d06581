use Rattle.std.proofs.Common.{take}
use Rattle.xd_goals.specs.Reached.{MarksThese}
use Rattle.xd_goals.proofs.settled.mark_settled.Given as goal

abbrev pub invariant-loop-number : goal.invariant-loop-number
invariant-loop-number l = MarksThese (take l.number-index l.order) l.initial.rows.items l.rows.items
