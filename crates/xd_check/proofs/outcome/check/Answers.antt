use Rattle.xd_check.proofs.outcome.check.Goals as goal

pub returns : goal.returns
returns c = record { outcome = c.check_in.ensures.outcome; keeps = c.check_in.ensures.keeps }
