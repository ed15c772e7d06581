use Rattle.xd_auto.proofs.membership.accepts_kept.Goals as goal

pub returns-clause-keeps : goal.returns-clause-keeps
returns-clause-keeps c = rw (← c.answers.view_is) c.walk.ensures.keeps

pub walk-requires-clause-right : goal.walk-requires-clause-right
walk-requires-clause-right c = rw c.answers.view_is c.requires.right
