use Rattle.std.proofs.Common.{take, None}
use Rattle.xd_same_types.specs.Grown.{GrowsTypes}
use Rattle.xd_syntax.specs.Types.{tree}
use Rattle.xd_show_solve.specs.Equations.{AddsMultiple, products}
use Rattle.xd_show_solve.specs.Summands.{SummandsStand, summands_in}
use Rattle.xd_show_solve.proofs.SideLaws.{a_side}
use Rattle.xd_show_solve.proofs.summands.push_products.Given as goal

abbrev pub invariant-loop-term : goal.invariant-loop-term
invariant-loop-term l = record {
  keeps : GrowsTypes l.fn.pool.types l.pool.types;
  stand : SummandsStand l.pool.types l.some;
  adds : AddsMultiple (summands_in l.fn.pool.types l.fn.some) (tree l.fn.pool.types l.fn.by) (a_side (products l.fn.pool.types (take l.term-index l.terms)) None) (summands_in l.pool.types l.some);
}
