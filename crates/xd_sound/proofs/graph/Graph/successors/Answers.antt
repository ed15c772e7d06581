use Rattle.std.proofs.Common.{subst}
use Rattle.xd_sound.specs.Graph.{IsClosed}
use Rattle.xd_sound.proofs.graph.Graph.successors.Goals as goal

pub returns-clause-closed : goal.returns-clause-closed
returns-clause-closed c = subst IsClosed c.self.view_is c.self.invariant
