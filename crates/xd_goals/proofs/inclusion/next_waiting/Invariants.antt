use Rattle.std.proofs.Common.{length, vec_len}
use Rattle.std.specs.List.{AllByRecursion}
use Rattle.xd_goals.specs.Verdicts.{IsGoalBelow}
use Rattle.xd_goals.proofs.inclusion.next_waiting.Given as goal

abbrev pub invariant-loop-goal : goal.invariant-loop-goal
invariant-loop-goal l = AllByRecursion (IsGoalBelow (length l.goals.rows.items)) l.agenda.items

abbrev pub decreases-loop-goal : goal.decreases-loop-goal
decreases-loop-goal l = vec_len l.agenda
