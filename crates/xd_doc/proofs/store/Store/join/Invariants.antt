use Rattle.std.proofs.Common.{◌≡◌, ◌+◌, ◌<◌, ◌≤◌, drop, length}
use Rattle.xd_doc.specs.Stored.{document_at}
use Rattle.xd_doc.specs.StoredSeq.{BelongsTo}
use Rattle.xd_doc.specs.StoreNodes.{Keeps, joined_at, breadth_before_last}
use Rattle.xd_doc.proofs.store.Store.join.Given as goal

abbrev pub invariant-loop-left : goal.invariant-loop-left
invariant-loop-left l = record {
  within : l.left < length l.parts;
  made : BelongsTo l.self l.made;
  keeps : Keeps l.fn.self l.self;
  joined : document_at l.self l.made ≡ joined_at l.fn.self (drop l.left l.parts);
  few : length l.self ≤ length l.fn.self + breadth_before_last l.fn.self (drop l.left l.parts);
}

abbrev pub decreases-loop-left : goal.decreases-loop-left
decreases-loop-left l = l.left
