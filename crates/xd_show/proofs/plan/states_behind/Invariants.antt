use Rattle.std.proofs.Common.{◌≡◌, ◌<◌, length, get_or}
use Rattle.std.specs.List.{AllByRecursion}
use Rattle.xd_auto.specs.Automaton.{IsState}
use Rattle.xd_show.proofs.plan.states_behind.Given as goal

abbrev pub invariant-loop-number : goal.invariant-loop-number
invariant-loop-number l = record {
  states : AllByRecursion (IsState l.auto') l.made.items;
  some : 0 < length l.made.items;
  first : get_or l.made.items 0 l.start ≡ l.start;
}
