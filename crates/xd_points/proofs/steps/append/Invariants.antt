use Rattle.std.proofs.Common.{◌≡◌, ◌++◌, map}
use Rattle.xd_points.proofs.steps.append.Given as goal

abbrev pub invariant-loop-step : goal.invariant-loop-step
invariant-loop-step g l = record {
  can : (goal.iterator-loop-step g).can_next l.step-iterator;
  finite : (goal.iterator-loop-step g).is_finite l.step-iterator;
  moves : l.moves.items ≡ l.initial.moves.items ++ l.yielded;
  numbers : l.numbers.items ≡ l.initial.numbers.items ++ map (λ (m : g.row.M.Denot). l.number) l.yielded;
}
