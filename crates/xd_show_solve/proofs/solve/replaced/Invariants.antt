use Rattle.std.proofs.Common.{◌≡◌, take}
use Rattle.xd_same_types.specs.Grown.{GrowsTypes}
use Rattle.xd_show_solve.specs.Equations.{IsReplaced, SumStands, side_in}
use Rattle.xd_show_solve.proofs.SideLaws.{a_side}
use Rattle.xd_show_solve.proofs.SumSteps.{products, constant_of}
use Rattle.xd_show_solve.proofs.solve.replaced.Given as goal

abbrev pub invariant-loop-term : goal.invariant-loop-term
invariant-loop-term l = record {
  keeps : GrowsTypes l.fn.pool.types l.pool.types;
  stands : SumStands l.pool.types l.made;
  items : l.term-items ≡ l.sum.terms.items;
  replaced : IsReplaced l.of (side_in l.fn.pool.types l.by) (a_side (products l.fn.pool.types (take l.term-index l.term-items)) (constant_of l.fn.pool.types l.sum.constant)) (side_in l.pool.types l.made);
}
