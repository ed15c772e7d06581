use Rattle.std.proofs.Common.{◌≡◌, [], vec_len}
use Rattle.xd_doc.specs.Stored.{document_at}
use Rattle.xd_doc.specs.StoredSeq.{BelongsTo}
use Rattle.xd_doc.specs.StoreNodes.{Keeps}
use Rattle.xd_eval.specs.Values.{AreMet, JoinsStand, fronts_then, joined_after, value_at, world}
use Rattle.xd_eval.proofs.joins.read.Given as goal

-- the fronts that are left, and after them what was made; all joins stand for what they stood for
abbrev pub invariant-loop-join : goal.invariant-loop-join
invariant-loop-join l = record {
  joins : JoinsStand l.store l.joins.items;
  joined : joined_after l.store [] l.joins.items ≡ joined_after l.fn.store [] l.fn.joins.items;
  keeps : Keeps l.fn.store l.store;
  made : BelongsTo l.store l.made;
  met : AreMet (world l.fn.store l.fn.joins.items) l.met.items (document_at l.store l.made);
  document : fronts_then (world l.fn.store l.fn.joins.items) l.met.items (document_at l.store l.made) ≡ value_at (world l.fn.store l.fn.joins.items) l.fn.value;
}

abbrev pub decreases-loop-join : goal.decreases-loop-join
decreases-loop-join l = vec_len l.met
