use Rattle.std.proofs.Common.{vec_len}
use Rattle.xd_check_steps.proofs.AcceptedInTurnLemmas.{AreJoined}
use Rattle.xd_check_steps.proofs.states.join_states.Given as goal

abbrev pub invariant-loop-state : goal.invariant-loop-state
invariant-loop-state l = AreJoined l.fn.auto l.auto' l.fn.states.items l.states.items l.made

abbrev pub decreases-loop-state : goal.decreases-loop-state
decreases-loop-state l = vec_len l.states
