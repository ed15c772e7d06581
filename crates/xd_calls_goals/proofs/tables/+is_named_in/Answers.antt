use Rattle.std.proofs.Common.{arith}
use Rattle.xd_calls_goals.proofs.tables.+is_named_in.Goals as goal

pub is_named_in-requires : goal.is_named_in-requires
is_named_in-requires t c =
    let s = c.in-Split.ensures.stands in
    (omega (arith, s.0, c.decreases), omega (arith, s.0, c.requires))

pub is_named_in-requires-else-is_named_in : goal.is_named_in-requires-else-is_named_in
is_named_in-requires-else-is_named_in t c =
    let s = c.in-Split.ensures.stands in
    (omega (arith, s.1, c.decreases), omega (arith, s.1, c.requires))
