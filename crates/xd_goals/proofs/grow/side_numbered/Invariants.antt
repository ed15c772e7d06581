use Rattle.std.proofs.Common.{ℕ, ◌≡◌, ◌<◌, length, Some}
use Rattle.std.specs.List.{slice_get}
use Rattle.xd_state_heads.specs.declared.heads.Side.{Side}
use Rattle.xd_goals.proofs.grow.side_numbered.Given as goal

abbrev pub invariant-loop-place : goal.invariant-loop-place
invariant-loop-place l = record {
  none : (k : ℕ) (s : Side) → k < l.place → slice_get l.sides k ≡ Some s → ¬ (s.number ≡ l.number);
  end_is : l.place-end ≡ length l.sides;
}
