use Rattle.std.proofs.Common.{[], false, take}
use Rattle.xd_auto.specs.Automaton.{ChangesOnly, moves_at}
use Rattle.xd_clauses.specs.Begins.{AddsNames}
use Rattle.xd_clauses.proofs.begins.add_texts.Given as goal

abbrev pub invariant-loop-step : goal.invariant-loop-step
invariant-loop-step l = record {
  changes : ChangesOnly l.to l.initial.made l.made;
  adds : AddsNames false [] (take l.step-index l.step-items) (moves_at l.initial.made l.to) (moves_at l.made l.to);
}
