use Rattle.std.proofs.Common.{◌≡◌, ◌<◌, ℕ, get_or, length}
use Rattle.xd_bind.specs.declared.tracks.Binding.{Binding}
use Rattle.xd_bind.specs.Projection.{IsBindingOf}
use Rattle.xd_given.proofs.projecting.nothing_bound.Given as goal

abbrev pub invariant-loop-number : goal.invariant-loop-number
invariant-loop-number l = record {
  count : length l.bindings.items ≡ l.number;
  each : (x : ℕ) (d : Binding) → x < l.number → IsBindingOf l.tracks x (get_or l.bindings.items x d);
}
