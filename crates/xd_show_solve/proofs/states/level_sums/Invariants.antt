use Rattle.std.proofs.Common.{◌≡◌, length}
use Rattle.xd_same_types.specs.Grown.{GrowsTypes}
use Rattle.xd_show_solve.specs.Levels.{AreStateSums}
use Rattle.xd_show_solve.specs.Systems.{AllStand}
use Rattle.xd_show_solve.proofs.states.level_sums.Given as goal

abbrev pub invariant-loop-number : goal.invariant-loop-number
invariant-loop-number l = record {
  keeps : GrowsTypes l.fn.pool.types l.pool.types;
  count : length l.sums.items ≡ l.number;
  stand : AllStand l.pool.types l.sums.items;
  sums : AreStateSums l.auto' l.fn.pool.types l.written l.level.places.items l.level.states.items l.pool.types l.sums.items;
}
