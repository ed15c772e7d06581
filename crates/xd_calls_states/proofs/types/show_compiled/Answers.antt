use Rattle.xd_calls_states.proofs.StatesOfTypes.{is_type_state}
use Rattle.xd_calls_states.proofs.types.show_compiled.Goals as goal

pub show_state-requires-clause-state : goal.show_state-requires-clause-state
show_state-requires-clause-state c = is_type_state c.compile_type.new.sound.types c.compile_type.new.cells c.in_ok-state.state c.in_ok-state.ensures.continuation

pub show_sorts-requires-clause-state : goal.show_sorts-requires-clause-state
show_sorts-requires-clause-state c = is_type_state c.compile_type.new.sound.types c.compile_type.new.cells c.in_ok-state.state c.in_ok-state.ensures.continuation
