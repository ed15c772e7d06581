use Rattle.xd_auto.proofs.Closed.{IsClosed-with_moves}
use Rattle.xd_auto.proofs.auto.Auto.set_moves.Goals as goal

pub invariant_of-self : goal.invariant_of-self
invariant_of-self c = rw c.set_moves.ensures (IsClosed-with_moves c.self.inside.states.items (record { number = c.args.state.number }) _ c.self.invariant (rw c.self.view_is (record { labels = c.requires.labels; texts = c.requires.texts })))
