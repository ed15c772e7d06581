use Rattle.std.proofs.Common.{◌+◌, ◌-◌, length}
use Rattle.xd_proof_make.specs.Met.{unmet}
use Rattle.xd_proof_make.proofs.IsMetLemmas.{IsOnTheWay}
use Rattle.xd_proof_make.proofs.reach.reach.Given as goal

abbrev pub invariant-loop-next : goal.invariant-loop-next
invariant-loop-next l = IsOnTheWay l.table l.fn.start.number l.met.order.items l.met.numbers.items l.next

abbrev pub decreases-loop-next : goal.decreases-loop-next
decreases-loop-next l = unmet l.met.numbers.items + length l.met.order.items - l.next
