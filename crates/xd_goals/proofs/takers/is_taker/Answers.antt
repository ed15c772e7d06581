use Rattle.xd_goals.proofs.takers.is_taker.Goals as goal

pub returns-then-branch-clause-right : goal.returns-then-branch-clause-right
returns-then-branch-clause-right c = c.accepts_kept-then-branch.ensures.right

pub returns-else-branch-clause-right : goal.returns-else-branch-clause-right
returns-else-branch-clause-right c = c.accepts_kept.ensures.right
