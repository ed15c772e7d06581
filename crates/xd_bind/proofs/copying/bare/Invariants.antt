use Rattle.std.proofs.Common.{◌≡◌, ◌<◌, length}
use Rattle.xd_auto.specs.declared.auto.State.{State}
use Rattle.xd_auto.specs.Automaton.{moves_at, no_moves, state_number}
use Rattle.xd_bind.proofs.copying.bare.Given as goal

abbrev pub invariant-loop-number : goal.invariant-loop-number
invariant-loop-number l = record {
  count : length l.made ≡ l.number;
  bare : (s : State) → state_number s < l.number → moves_at l.made s ≡ no_moves (moves_at l.auto' s).last;
}
