use Rattle.std.proofs.Common.{subst}
use Rattle.xd_check.specs.Outcome.{IsOutcome}
use Rattle.xd_uses.proofs.values.accepted.Goals as goal

pub returns : goal.returns
returns c = (subst (IsOutcome c.args.sound c.check.new.store) c.in-Accepted.is c.in_ok-checked.ensures.outcome).5
