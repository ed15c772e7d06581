use Rattle.xd_auto.proofs.auto.Auto.len.Goals as goal

pub returns-clause-closed : goal.returns-clause-closed
returns-clause-closed c = rw c.self.view_is at c.self.invariant
