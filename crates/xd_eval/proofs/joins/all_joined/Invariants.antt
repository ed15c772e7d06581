use Rattle.std.proofs.Common.{◌≡◌, ◌≤◌, map, drop, length}
use Rattle.xd_doc.specs.StoreNodes.{Keeps}
use Rattle.xd_eval.specs.Waiting.{joined_all}
use Rattle.xd_eval.specs.Values.{JoinsStand, KeepsValues, Stands, value_at, world}
use Rattle.xd_eval.proofs.joins.all_joined.Given as goal

-- the values from here on are joined
abbrev pub invariant-loop-left : goal.invariant-loop-left
invariant-loop-left l = record {
  within : l.left ≤ length l.values;
  joins : JoinsStand l.store l.joins.items;
  kept : KeepsValues (world l.fn.store l.fn.joins.items) (world l.store l.joins.items);
  stands : Stands (world l.store l.joins.items) l.made;
  value : value_at (world l.store l.joins.items) l.made ≡ joined_all (map (value_at (world l.fn.store l.fn.joins.items)) (drop l.left l.values));
  keeps : Keeps l.fn.store l.store;
}

abbrev pub decreases-loop-left : goal.decreases-loop-left
decreases-loop-left l = l.left
