use Rattle.xd_calls_states.proofs.named.name_each.Goals as goal

pub name_state-requires-clause-mirrors : goal.name_state-requires-clause-mirrors
name_state-requires-clause-mirrors c = c.loop-name.invariant.mirrors

pub name_state-requires-clause-states : goal.name_state-requires-clause-states
name_state-requires-clause-states c = c.loop-name.invariant.states

pub returns : goal.returns
returns c = c.loop-name.invariant.states
