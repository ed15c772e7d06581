use Rattle.std.proofs.Common.{◌≡◌, ◌<◌, length}
use Rattle.xd_auto.specs.declared.auto.State.{State}
use Rattle.xd_auto.specs.Automaton.{state_number}
use Rattle.xd_match.specs.Tails.{HasEdgeTo, LeadsFrom}
use Rattle.xd_match.proofs.tails.states_behind.Given as goal

abbrev pub invariant-loop-number : goal.invariant-loop-number
invariant-loop-number l = record {
  count : length l.behind ≡ length l.auto';
  end_is : l.number-end ≡ length l.auto';
  edges : (s : State) → state_number s < l.number → LeadsFrom l.auto' (HasEdgeTo l.behind s) s;
}
