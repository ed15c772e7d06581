use Rattle.xd_calls_states.proofs.named.compile_both.Goals as goal

pub returns-clause-one : goal.returns-clause-one
returns-clause-one c = c.in_ok-second.ensures.extends.states c.in_ok-first.first c.in_ok-first.ensures.state

pub returns-clause-two : goal.returns-clause-two
returns-clause-two c = c.in_ok-second.ensures.state
