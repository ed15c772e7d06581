use Rattle.xd_auto.proofs.Closed.{moves_at-closed}
use Rattle.xd_auto.proofs.auto.Auto.text_moves.Goals as goal

pub returns-clause-closed : goal.returns-clause-closed
returns-clause-closed c = moves_at-closed c.args.self.now c.args.state (rw c.self.view_is at c.self.invariant) c.requires
