use Rattle.std.proofs.Common.{◌-◌, length}
use Rattle.xd_auto.specs.Copying.{copies_in}
use Rattle.xd_auto.proofs.AreCopiedLemmas.{Following}
use Rattle.xd_auto.proofs.auto.copying.reach_from.Given as goal

abbrev pub invariant-loop-done : goal.invariant-loop-done
invariant-loop-done l = Following l.auto' l.contents l.fn.start l.base l.done l.reach.order.items (copies_in l.reach.copies)

abbrev pub decreases-loop-done : goal.decreases-loop-done
decreases-loop-done l = length l.auto' - l.done
