use Rattle.std.proofs.Common.{length}
use Rattle.xd_doc.specs.StoredSeq.{IsBelow}
use Rattle.xd_goals.proofs.IsWokenRowLemmas.{steps_left}
use Rattle.xd_calls_goals.proofs.tables.has_holding_dependent.Given as goal

abbrev pub invariant-loop-at : goal.invariant-loop-at
invariant-loop-at l = IsBelow (length l.table.links) l.at

abbrev pub decreases-loop-at : goal.decreases-loop-at
decreases-loop-at l = steps_left l.at
