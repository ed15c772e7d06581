use Rattle.std.proofs.Common.{rules}
use Rattle.xd_auto.proofs.Closed.{IsClosed-last}
use Rattle.xd_auto.proofs.auto.Auto.set_last.Goals as goal

pub invariant_of-self : goal.invariant_of-self
invariant_of-self c = rw c.set_last.ensures (IsClosed-last c.self.inside.states.items (record { number = c.args.state.number }) c.args.last c.self.invariant (search rules))
