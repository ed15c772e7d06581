use Rattle.std.proofs.Common.{◌≡◌, ℕ, ◌<◌, length, []}
use Rattle.xd_boole.specs.Meaning.{less}
use Rattle.xd_boole.specs.Points.{point_at, state_at}
use Rattle.xd_apart.proofs.over_approximation.OverApproximation.new.Given as goal

abbrev pub invariant-loop-number : goal.invariant-loop-number
invariant-loop-number l = record {
  count : length l.points.items ≡ l.number;
  each : (i : ℕ) → i < l.number → point_at l.points.items i ≡ less (state_at i) [];
}
