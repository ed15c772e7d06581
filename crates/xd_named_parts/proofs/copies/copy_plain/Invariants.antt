use Rattle.xd_same_types.specs.Grown.{GrowsTypes}
use Rattle.xd_named_parts.specs.Copies.{AreBare, AreGivenWith, GrowsCopies}
use Rattle.xd_named_parts.proofs.copies.copy_plain.Given as goal

abbrev pub invariant-loop-turn : goal.invariant-loop-turn
invariant-loop-turn l = record {
  keeps : GrowsTypes l.fn.pool.types l.pool.types;
  grows : GrowsCopies (AreGivenWith l.given.pool.types l.given.names.items l.given.bodies.items l.fn.pool.types l.inner) l.given.pool.types l.fn.pool.types l.fn.plain.items l.pool.types l.plain.items;
  bare : AreBare l.fn.pool.types l.fn.plain.items → AreBare l.pool.types l.plain.items;
}
