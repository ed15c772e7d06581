use Rattle.std.proofs.Common.{◌≡◌, length}
use Rattle.xd_same_types.specs.Grown.{GrowsTypes}
use Rattle.xd_show_solve.specs.Rounds.{AreOwns}
use Rattle.xd_show_solve.proofs.rounds.owns_of.Given as goal

abbrev pub invariant-loop-number : goal.invariant-loop-number
invariant-loop-number l = record {
  keeps : GrowsTypes l.fn.pool.types l.pool.types;
  count : length l.made.items ≡ l.number;
  owns : AreOwns l.fn.pool.types l.pool.types l.sums l.alive l.made.items;
}
