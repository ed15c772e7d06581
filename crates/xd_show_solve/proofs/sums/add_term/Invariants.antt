use Rattle.std.proofs.Common.{◌≡◌}
use Rattle.xd_same_types.specs.Grown.{GrowsTypes}
use Rattle.xd_show_solve.proofs.sums.add_term.Given as goal

abbrev pub invariant-loop-number : goal.invariant-loop-number
invariant-loop-number l = record {
  keeps : GrowsTypes l.fn.pool.types l.pool.types;
  terms : l.sum.terms.items ≡ l.fn.sum.terms.items;
  constant : l.sum.constant ≡ l.fn.sum.constant;
}
