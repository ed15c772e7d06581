use Rattle.std.proofs.Common.{◌+◌, length}
use Rattle.std.specs.List.{AllByRecursion}
use Rattle.xd_goals.specs.Measure.{possible, potential}
use Rattle.xd_goals.specs.Progress.{Progresses, Settles}
use Rattle.xd_goals.specs.Verdicts.{IsGoalBelow}
use Rattle.xd_goals.proofs.inclusion.run.Given as goal

abbrev pub invariant-loop-goal : goal.invariant-loop-goal
invariant-loop-goal l = record {
  progresses : Progresses l.auto' l.fn.store l.store l.fn.goals l.goals;
  settles : Settles l.auto' l.store l.fn.goals l.goals l.answers;
  agenda : AllByRecursion (IsGoalBelow (length l.goals.rows.items)) l.agenda.items;
}

abbrev pub decreases-loop-goal : goal.decreases-loop-goal
decreases-loop-goal l = potential (length l.fn.goals.rows.items + length (possible (length l.auto'))) l.goals.rows.items
