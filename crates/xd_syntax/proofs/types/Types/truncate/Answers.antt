use Rattle.std.proofs.Common.{false}
use Rattle.xd_syntax.proofs.Fronts.{table_front}
use Rattle.xd_syntax.proofs.types.Types.truncate.Goals as goal

pub invariant_of-self : goal.invariant_of-self
invariant_of-self c = rw c.truncate.ensures.items (table_front false c.args.len c.self.inside.nodes.items c.self.invariant)
