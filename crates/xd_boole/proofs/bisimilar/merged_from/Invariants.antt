use Rattle.xd_boole.specs.Merging.{RedirectsFirst}
use Rattle.xd_boole.proofs.bisimilar.merged_from.Given as goal

abbrev pub invariant-loop-number : goal.invariant-loop-number
invariant-loop-number l = RedirectsFirst l.fn.auto l.same.items l.made l.number
