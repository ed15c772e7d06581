use Rattle.std.proofs.Common.{◌≡◌, take}
use Rattle.xd_same_types.specs.Grown.{GrowsTypes}
use Rattle.xd_show_solve.specs.Equations.{products}
use Rattle.xd_show_solve.specs.Rounds.{IsTaken}
use Rattle.xd_show_solve.specs.Summands.{SummandsStand, summands_in}
use Rattle.xd_show_solve.proofs.SideLaws.{a_side}
use Rattle.xd_show_solve.proofs.SumSteps.{constant_of}
use Rattle.xd_show_solve.proofs.rounds.taken_summands.Given as goal

abbrev pub invariant-loop-term : goal.invariant-loop-term
invariant-loop-term l = record {
  keeps : GrowsTypes l.fn.pool.types l.pool.types;
  stand : SummandsStand l.pool.types l.some;
  items : l.term-items ≡ l.sum.terms.items;
  taken : IsTaken l.fn.pool.types l.owns (a_side (products l.fn.pool.types (take l.term-index l.term-items)) (constant_of l.fn.pool.types l.sum.constant)) (summands_in l.pool.types l.some);
}
