use Rattle.xd_goals.specs.Standing.{StandsOn}
use Rattle.xd_calls_goals.proofs.tables.show_questions_in.Given as goal

abbrev pub invariant-loop-left : goal.invariant-loop-left
invariant-loop-left l = StandsOn l.auto' l.store l.table
