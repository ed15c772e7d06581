use Rattle.xd_goals.specs.Standing.{StandsOn}
use Rattle.xd_calls_goals.proofs.tables.show_questions_on.Given as goal

abbrev pub invariant-loop-right : goal.invariant-loop-right
invariant-loop-right l = StandsOn l.auto' l.store l.table
