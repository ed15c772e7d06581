use Rattle.std.proofs.Common.{◌≡◌, ℕ, ◌<◌, false, None}
use Rattle.std.specs.Option.{IfSome}
use Rattle.xd_show_solve.specs.Systems.{IsLeft, is_alive}
use Rattle.xd_show_solve.proofs.weights.least.Given as goal

abbrev pub invariant-loop-number : goal.invariant-loop-number
invariant-loop-number l = record {
  found : IfSome l.best (IsLeft l.sums l.alive);
  none : l.best ≡ None → (i : ℕ) → 0 < i → i < l.number → is_alive l.alive i ≡ false;
}
