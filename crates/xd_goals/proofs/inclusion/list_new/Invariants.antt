use Rattle.std.proofs.Common.{length}
use Rattle.std.specs.List.{AllByRecursion}
use Rattle.xd_goals.specs.Verdicts.{IsGoalBelow}
use Rattle.xd_goals.proofs.inclusion.list_new.Given as goal

abbrev pub invariant-loop-number : goal.invariant-loop-number
invariant-loop-number l = AllByRecursion (IsGoalBelow (length l.rows)) l.agenda.items
