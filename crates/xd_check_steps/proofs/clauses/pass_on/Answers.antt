use Rattle.xd_check_steps.proofs.clauses.pass_on.Goals as goal

pub returns-in_ok-without-clause-remains : goal.returns-in_ok-without-clause-remains
returns-in_ok-without-clause-remains c E P made a d = let x = c.in_ok-without.ensures.remains E P made a d in ((λ m. let y = x.0 m in (y.0, λ e. y.1)), (λ m. x.1 (m.0, m.1 c.if-is_live.true)))
