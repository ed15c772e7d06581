use Rattle.std.proofs.Common.{◌≡◌, length}
use Rattle.xd_same_types.specs.Grown.{GrowsTypes}
use Rattle.xd_show_solve.specs.Systems.{AllStand}
use Rattle.xd_show_solve.proofs.ReduceLaws.{AllRewritten}
use Rattle.xd_show_solve.proofs.reduce.reduced.Given as goal

abbrev pub invariant-loop-number : goal.invariant-loop-number
invariant-loop-number l = record {
  keeps : GrowsTypes l.fn.pool.types l.pool.types;
  count : length l.made.items ≡ l.number;
  stand : AllStand l.pool.types l.made.items;
  rewritten : AllRewritten l.fn.pool.types l.pool.types l.sums l.made.items;
}
