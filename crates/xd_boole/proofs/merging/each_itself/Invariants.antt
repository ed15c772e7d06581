use Rattle.std.proofs.Common.{◌≡◌, length}
use Rattle.std.specs.List.{AllByRecursion}
use Rattle.xd_auto.specs.declared.auto.State.{State}
use Rattle.xd_auto.specs.Automaton.{IsState}
use Rattle.xd_boole.specs.Merging.{stand_in}
use Rattle.xd_boole.proofs.merging.each_itself.Given as goal

abbrev pub invariant-loop-number : goal.invariant-loop-number
invariant-loop-number l = record {
  count : length l.same.items ≡ l.number;
  states : AllByRecursion (IsState l.fn.auto) l.same.items;
  itself : (s : State) → stand_in l.same.items s ≡ s;
}
