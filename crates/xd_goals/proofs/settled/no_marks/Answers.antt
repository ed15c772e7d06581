use Rattle.xd_goals.proofs.IsWalkedLemmas.{unmarked_push}
use Rattle.std.proofs.Common.{arith}
use Rattle.xd_goals.proofs.settled.no_marks.Goals as goal

pub loop-preserved : goal.loop-preserved
loop-preserved c = record { count = omega (arith, c.in_ok-push.ensures.len, c.loop.invariant.count); none = rw c.in_ok-push.ensures.items (unmarked_push c.loop.marks.items c.loop.invariant.none) }
