use Rattle.std.proofs.Common.{◌≡◌, ℕ, ◌<◌, length, get_or}
use Rattle.xd_auto.specs.Automaton.{Extends}
use Rattle.xd_bind.specs.declared.tracks.Given.{Given}
use Rattle.xd_given.specs.Traced.{IsGivenAtOf}
use Rattle.xd_given.proofs.given.add_givens.Given as goal

abbrev pub invariant-loop-number : goal.invariant-loop-number
invariant-loop-number g l = record {
  extends : Extends l.fn.auto l.auto';
  count : length l.givens.items ≡ l.number;
  each : (x : ℕ) (d : Given) → x < l.number → IsGivenAtOf l.fn.auto l.of.patterns.now l.of.table.now (g.H.Holds.owned l.of.owner.now) l.start l.variables l.auto' x (get_or l.givens.items x d);
}
