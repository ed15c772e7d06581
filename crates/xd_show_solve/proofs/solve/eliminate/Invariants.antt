use Rattle.xd_same_types.specs.Grown.{GrowsTypes}
use Rattle.xd_show_solve.specs.Equations.{SumStands}
use Rattle.xd_show_solve.specs.Systems.{AllStand}
use Rattle.xd_show_solve.proofs.SystemLaws.{ReplacesFirst}
use Rattle.xd_show_solve.proofs.solve.eliminate.Given as goal

abbrev pub invariant-loop-number : goal.invariant-loop-number
invariant-loop-number l = record {
  start : GrowsTypes l.fn.pool.types l.initial.pool.types;
  keeps : GrowsTypes l.initial.pool.types l.pool.types;
  stand : AllStand l.pool.types l.sums.items;
  own : SumStands l.pool.types l.own;
  replaced : ReplacesFirst l.fn.pool.types l.pool.types l.gone l.own l.number l.fn.sums.items l.sums.items;
}
