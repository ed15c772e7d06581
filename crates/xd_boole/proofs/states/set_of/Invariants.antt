use Rattle.std.proofs.Common.{◌≡◌, [], drop}
use Rattle.xd_boole.specs.Meaning.{with_states}
use Rattle.xd_boole.proofs.states.set_of.Given as goal

abbrev pub invariant-loop-state : goal.invariant-loop-state
invariant-loop-state l = with_states l.states [] ≡ with_states (drop l.state-index l.states) l.made.items
