use Rattle.xd_show.proofs.PlanLaws.{AreNamedBelow}
use Rattle.xd_show.proofs.plan.plain_plan.Given as goal

abbrev pub invariant-loop-number : goal.invariant-loop-number
invariant-loop-number l = AreNamedBelow l.auto' l.start l.number l.named.items
