use Rattle.std.proofs.Common.{◌≡◌, ◌++◌, map, take}
use Rattle.xd_auto.specs.Automaton.{Extends, no_moves}
use Rattle.xd_bind.proofs.adding.add_states.Given as goal

abbrev pub invariant-loop-last : goal.invariant-loop-last
invariant-loop-last l = record {
  added : l.auto' ≡ l.initial.auto' ++ map no_moves (take l.last-index l.lasts);
  extends : Extends l.initial.auto' l.auto';
}
