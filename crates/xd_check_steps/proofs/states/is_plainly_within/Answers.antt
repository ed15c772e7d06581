use Rattle.xd_check_steps.proofs.states.is_plainly_within.Goals as goal

pub returns : goal.returns
returns c q d h = c.is_universal.ensures q d
