use Rattle.xd_auto.proofs.Closed.{IsClosed-append}
use Rattle.xd_auto.proofs.ExtendsLemmas.{keeps, Extends-append}
use Rattle.xd_auto.proofs.auto.Auto.extend.Goals as goal

pub invariant_of-self : goal.invariant_of-self
invariant_of-self c = rw c.in_err-append.ensures.items c.self.invariant

pub invariant_of-self-2 : goal.invariant_of-self-2
invariant_of-self-2 c = rw c.in_ok-append.ensures.items (IsClosed-append _ _ c.self.invariant (rw (← c.self.view_is) at c.requires))

pub returns-clause-keeps : goal.returns-clause-keeps
returns-clause-keeps c = rw (c.in_ok-append.ensures.items, ← c.self.view_is) (keeps _ _ c.self.invariant (Extends-append _ _))

pub returns-clause-extends : goal.returns-clause-extends
returns-clause-extends c = rw (c.in_ok-append.ensures.items, ← c.self.view_is) (Extends-append _ _)
