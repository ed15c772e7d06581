use Rattle.std.proofs.Common.{◌+◌, ◌++◌}
use Rattle.std.specs.List.{AllByRecursion}
use Rattle.xd_doc.specs.Document.{items_text, size}
use Rattle.xd_doc.specs.Stored.{document_at}
use Rattle.xd_doc.specs.StoredSeq.{BelongsTo}
use Rattle.xd_write.proofs.WriteLemmas.{IsWritten, closing, weight}
use Rattle.xd_write.proofs.write.write_items.Given as goal

abbrev pub invariant-loop-outers : goal.invariant-loop-outers
invariant-loop-outers l = record {
  here : BelongsTo l.store l.rest;
  outers : AllByRecursion (BelongsTo l.store) l.outers.items;
  written : IsWritten (items_text (document_at l.store l.fn.seq)) l.initial.out.items l.out.items (items_text (document_at l.store l.rest) ++ closing l.store l.outers.items);
}

abbrev pub decreases-loop-outers : goal.decreases-loop-outers
decreases-loop-outers l = (size (document_at l.store l.rest) + size (document_at l.store l.rest)) + weight l.store l.outers.items
