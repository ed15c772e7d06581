use Rattle.xd_patterns.proofs.Staying.{compiled_states_stay}
use Rattle.xd_patterns.proofs.laws.compiled_states_stay.Goals as goal

pub returns : goal.returns
returns c = compiled_states_stay
