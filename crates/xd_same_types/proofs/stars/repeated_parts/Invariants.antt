use Rattle.std.proofs.Common.{take}
use Rattle.xd_same_types.specs.Grown.{GrowsTypes}
use Rattle.xd_same_types.specs.Same.{AreAltParts, AreStripped, trees}
use Rattle.xd_same_types.proofs.stars.repeated_parts.Given as goal

abbrev pub invariant-loop-part : goal.invariant-loop-part
invariant-loop-part l = record {
  keeps : GrowsTypes l.fn.pool.types l.pool.types;
  made : AreAltParts l.pool.types l.made.parts.items;
  parts : AreAltParts l.fn.pool.types l.part-items;
  stripped : AreStripped (trees l.pool.types l.made.parts.items) (trees l.fn.pool.types (take l.part-index l.part-items));
}
