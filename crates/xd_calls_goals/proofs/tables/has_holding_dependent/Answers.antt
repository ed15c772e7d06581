use Rattle.std.proofs.Common.{length}
use Rattle.xd_goals.proofs.IsWokenRowLemmas.{next_smaller, next_below}
use Rattle.xd_calls_goals.proofs.tables.has_holding_dependent.Goals as goal

pub loop-at-smaller : goal.loop-at-smaller
loop-at-smaller c = rw c.in-Some.is (next_smaller c.in-Some.link c.next_dependent-at.result c.next_dependent-at.ensures.older)

pub loop-at-preserved : goal.loop-at-preserved
loop-at-preserved c = next_below (length c.args.table.now.links) c.in-Some.link c.next_dependent-at.result (rw c.in-Some.is at c.loop-at.invariant) c.next_dependent-at.ensures.older
