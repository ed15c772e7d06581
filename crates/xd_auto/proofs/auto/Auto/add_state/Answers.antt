use Rattle.xd_auto.proofs.Closed.{IsClosed-push, no_moves-below}
use Rattle.xd_auto.proofs.ExtendsLemmas.{keeps, Extends-append}
use Rattle.xd_auto.proofs.auto.Auto.add_state.Goals as goal

pub invariant_of-self : goal.invariant_of-self
invariant_of-self c = rw c.in_err-push.ensures.items c.self.invariant

pub invariant_of-self-2 : goal.invariant_of-self-2
invariant_of-self-2 c = rw (c.in_ok-push.ensures.items, c.new-moves.ensures) (IsClosed-push _ _ c.self.invariant (no_moves-below _ c.args.last))

pub returns-clause-keeps : goal.returns-clause-keeps
returns-clause-keeps c = rw (c.in_ok-push.ensures.items, ← c.self.view_is) (keeps _ _ c.self.invariant (Extends-append _ _))
