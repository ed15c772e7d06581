use Rattle.std.proofs.Common.{◌≡◌, ◌<◌, true, length}
use Rattle.xd_same_types.specs.Grown.{GrowsTypes}
use Rattle.xd_show_solve.specs.Systems.{AllStand, is_alive}
use Rattle.xd_show_solve.proofs.SystemLaws.{StillHold, living}
use Rattle.xd_show_solve.proofs.solve.solution.Given as goal

abbrev pub invariant-loop-alive : goal.invariant-loop-alive
invariant-loop-alive l = record {
  keeps : GrowsTypes l.fn.pool.types l.pool.types;
  stand : AllStand l.pool.types l.sums.items;
  count : length l.alive.items ≡ length l.sums.items;
  some : 0 < length l.sums.items;
  zero : is_alive l.alive.items 0 ≡ true;
  hold : StillHold l.fn.pool.types l.pool.types l.fn.sums.items l.alive.items l.sums.items;
}

abbrev pub decreases-loop-alive : goal.decreases-loop-alive
decreases-loop-alive l = living l.alive.items
