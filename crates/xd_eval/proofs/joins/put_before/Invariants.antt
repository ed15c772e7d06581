use Rattle.std.proofs.Common.{◌≡◌}
use Rattle.std.specs.List.{AllByRecursion}
use Rattle.xd_doc.specs.Document.{join}
use Rattle.xd_doc.specs.Stored.{document_at}
use Rattle.xd_doc.specs.StoredSeq.{BelongsTo}
use Rattle.xd_doc.specs.StoreNodes.{Keeps}
use Rattle.xd_eval.specs.Values.{Stands, value_at, values_then, weights, world}
use Rattle.xd_eval.proofs.joins.put_before.Given as goal

-- the values that wait, and after them what was made
abbrev pub invariant-loop-value : goal.invariant-loop-value
invariant-loop-value l = record {
  waiting : AllByRecursion (Stands (world l.fn.store l.joins)) l.waiting.items;
  made : BelongsTo l.store l.made;
  keeps : Keeps l.fn.store l.store;
  document : values_then (world l.fn.store l.joins) l.waiting.items (document_at l.store l.made) ≡ join (value_at (world l.fn.store l.joins) l.fn.front) (document_at l.fn.store l.fn.back);
}

abbrev pub decreases-loop-value : goal.decreases-loop-value
decreases-loop-value l = weights l.waiting.items
