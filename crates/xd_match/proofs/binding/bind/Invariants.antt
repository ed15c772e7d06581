use Rattle.std.proofs.Common.{◌≡◌, ◌≤◌, drop, length}
use Rattle.xd_doc.specs.Document.{empty}
use Rattle.xd_doc.specs.Stored.{document_at}
use Rattle.xd_doc.specs.StoredSeq.{BelongsTo}
use Rattle.xd_doc.specs.StoreNodes.{Keeps}
use Rattle.xd_match.specs.Taking.{pieces_then}
use Rattle.xd_match.proofs.binding.bind.Given as goal

abbrev pub invariant-loop-left : goal.invariant-loop-left
invariant-loop-left l = record {
  within : l.left ≤ length l.pieces;
  made : BelongsTo l.store l.made;
  keeps : Keeps l.fn.store l.store;
  joined : document_at l.store l.made ≡ pieces_then l.fn.store (drop l.left l.pieces) empty;
}

abbrev pub decreases-loop-left : goal.decreases-loop-left
decreases-loop-left l = l.left
