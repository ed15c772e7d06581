use Rattle.std.specs.List.{AllByRecursion}
use Rattle.xd_auto.specs.Automaton.{IsState}
use Rattle.xd_show.proofs.plan.placed_states.Given as goal

abbrev pub invariant-loop-number : goal.invariant-loop-number
invariant-loop-number l = AllByRecursion (IsState l.auto') l.made.items
