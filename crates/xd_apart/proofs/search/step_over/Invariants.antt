use Rattle.xd_auto.specs.Kept.{AreRight}
use Rattle.xd_apart.proofs.search.step_over.Given as goal

abbrev pub invariant-loop-right : goal.invariant-loop-right
invariant-loop-right g l = AreRight l.auto' l.store l.answers
