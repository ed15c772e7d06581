use Rattle.xd_same_types.specs.Grown.{GrowsTypes}
use Rattle.xd_named_parts.specs.Copies.{AreGiven, GrowsCopies}
use Rattle.xd_named_parts.proofs.copies.copy_inner.Given as goal

abbrev pub invariant-loop-turn : goal.invariant-loop-turn
invariant-loop-turn l = record {
  keeps : GrowsTypes l.fn.pool.types l.pool.types;
  grows : GrowsCopies (AreGiven l.given.pool.types l.given.names.items l.given.bodies.items) l.given.pool.types l.fn.pool.types l.fn.inner.items l.pool.types l.inner.items;
}
