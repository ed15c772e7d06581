use Rattle.std.proofs.Common.{◌<◌, [], take, length}
use Rattle.xd_same_types.specs.Grown.{GrowsTypes}
use Rattle.xd_same_types.specs.Same.{AddsFits, AreAltParts, trees}
use Rattle.xd_same_types.proofs.ends.join_ends.Given as goal

abbrev pub invariant-loop-next : goal.invariant-loop-next
invariant-loop-next l = record {
  keeps : GrowsTypes l.fn.pool.types l.pool.types;
  parts : AreAltParts l.pool.types l.some.parts.items;
  fits : AddsFits [] (trees l.fn.pool.types (take l.next-index l.parts)) (trees l.pool.types l.some.parts.items);
  has : 0 < l.next-index → 0 < length l.some.parts.items;
}
