use Rattle.xd_auto.specs.Automaton.{ChangesOnly, moves_at}
use Rattle.xd_bind.specs.Changes.{IsChange, with_labels}
use Rattle.xd_bind.proofs.adding.put_labels.Given as goal

abbrev pub invariant-loop-step : goal.invariant-loop-step
invariant-loop-step l = record {
  can : (goal.iterator-loop-step).can_next l.step-iterator;
  finite : (goal.iterator-loop-step).is_finite l.step-iterator;
  put : IsChange l.initial.auto' l.auto' l.at (with_labels l.yielded (moves_at l.initial.auto' l.at));
  others : ChangesOnly l.at l.initial.auto' l.auto';
}
