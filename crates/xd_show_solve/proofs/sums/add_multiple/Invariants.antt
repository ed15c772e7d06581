use Rattle.std.proofs.Common.{◌≡◌, take, None}
use Rattle.xd_same_types.specs.Grown.{GrowsTypes}
use Rattle.xd_syntax.specs.Types.{tree}
use Rattle.xd_show_solve.specs.Equations.{AddsMultiple, SumStands, side_in}
use Rattle.xd_show_solve.proofs.SideLaws.{a_side}
use Rattle.xd_show_solve.proofs.SumSteps.{products}
use Rattle.xd_show_solve.proofs.sums.add_multiple.Given as goal

abbrev pub invariant-loop-term : goal.invariant-loop-term
invariant-loop-term l = record {
  keeps : GrowsTypes l.fn.pool.types l.pool.types;
  stands : SumStands l.pool.types l.made;
  items : l.term-items ≡ l.sum.terms.items;
  multiple : AddsMultiple (side_in l.fn.pool.types l.fn.made) (tree l.fn.pool.types l.fn.by) (a_side (products l.fn.pool.types (take l.term-index l.term-items)) None) (side_in l.pool.types l.made);
}
