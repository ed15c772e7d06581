use Rattle.xd_goals.proofs.IsWokenRowLemmas.{WakesTo, steps_left}
use Rattle.xd_goals.proofs.goals.wake_all.Given as goal

abbrev pub invariant-loop-at : goal.invariant-loop-at
invariant-loop-at l = WakesTo l.links l.fn.first l.at l.initial.rows.items l.rows.items

abbrev pub decreases-loop-at : goal.decreases-loop-at
decreases-loop-at l = steps_left l.at
