use Rattle.std.proofs.Common.{◌-◌, length}
use Rattle.xd_goals.specs.Kept.{view_of}
use Rattle.xd_goals.specs.Reached.{IsWalked}
use Rattle.xd_goals.proofs.settled.walk.Given as goal

abbrev pub invariant-loop-next : goal.invariant-loop-next
invariant-loop-next l = IsWalked (view_of l.goals) l.fn.start.number l.waiting.items l.found.keys l.next

abbrev pub decreases-loop-next : goal.decreases-loop-next
decreases-loop-next l = length l.goals.rows.items - l.next
