use Rattle.std.proofs.Common.{◌≡◌, ◌<◌, ◌≤◌, length}
use Rattle.xd_auto.specs.declared.auto.State.{State}
use Rattle.xd_auto.specs.Automaton.{moves_at, no_moves}
use Rattle.xd_bind.proofs.copying.copied.Given as goal

abbrev pub invariant-loop-number : goal.invariant-loop-number
invariant-loop-number l = record {
  count : length l.made ≡ length l.auto';
  done : (s : State) → s.number < l.number → moves_at l.made s ≡ moves_at l.auto' s;
  waiting : (s : State) → l.number ≤ s.number → s.number < length l.auto' → moves_at l.made s ≡ no_moves (moves_at l.auto' s).last;
}
