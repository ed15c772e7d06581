use Rattle.std.proofs.Common.{arith}
use Rattle.xd_empty.proofs.UsesLemmas.{length-lists}
use Rattle.xd_calls_parts.proofs.states.show_uses.Goals as goal

pub wake-requires-clause-below : goal.wake-requires-clause-below
wake-requires-clause-below c =
    let u = c.in_ok-uses.uses in
    let sized = c.in_ok-uses.ensures.uses.sized in
    let count = length-lists u.first u.lists.items in
    omega arith
