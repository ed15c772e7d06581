use Rattle.std.proofs.Common.{drop, take}
use Rattle.std.specs.List.{AllByRecursion}
use Rattle.xd_auto.specs.Automaton.{IsState}
use Rattle.xd_boole.specs.Universal.{TakesAll}
use Rattle.xd_boole.proofs.universal.all_take_all.Given as goal

abbrev pub invariant-loop-state : goal.invariant-loop-state
invariant-loop-state l = record {
  found : AllByRecursion (TakesAll l.fn.auto l.states) (take l.state-index l.states);
  left : AllByRecursion (IsState l.fn.auto) (drop l.state-index l.states);
}
