use Rattle.std.proofs.Common.{◌∷◌}
use Rattle.xd_syntax.specs.Table.{Row}
use Rattle.xd_syntax.specs.Words.{any_word}
use Rattle.xd_same_types.specs.Grown.{NamesAmong}
use Rattle.xd_named_parts.specs.Copies.{GrowsCopies, StandForNodes}
use Rattle.xd_named_parts.proofs.copies.name_nodes.Given as goal
use Rattle.std.proofs.Common.{List}

abbrev pub invariant-loop-number : goal.invariant-loop-number
invariant-loop-number l = record {
  grows : (old : List Row) → GrowsCopies (StandForNodes old l.names l.named) old l.fn.pool.types l.fn.inner.items l.pool.types l.inner.items;
  names : NamesAmong (any_word ∷ l.names) l.fn.pool.types → NamesAmong (any_word ∷ l.names) l.pool.types;
}
