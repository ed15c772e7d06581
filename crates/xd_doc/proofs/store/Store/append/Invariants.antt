use Rattle.std.proofs.Common.{◌≡◌, ◌+◌, ◌≤◌, length, vec_len}
use Rattle.std.specs.List.{AllByRecursion}
use Rattle.xd_doc.specs.Document.{join}
use Rattle.xd_doc.specs.DocumentCode.{breadth}
use Rattle.xd_doc.specs.Stored.{document_at}
use Rattle.xd_doc.specs.StoredSeq.{BelongsTo}
use Rattle.xd_doc.specs.StoreNodes.{Keeps, firsts_then}
use Rattle.xd_doc.proofs.store.Store.append.Given as goal

abbrev pub invariant-loop-seq : goal.invariant-loop-seq
invariant-loop-seq l = record {
  belong : AllByRecursion (BelongsTo l.initial.self) l.spine.items;
  made : BelongsTo l.self l.made;
  keeps : Keeps l.initial.self l.self;
  few : length l.self + vec_len l.spine ≤ length l.initial.self + breadth (document_at l.initial.self l.fn.front);
  joined : firsts_then l.initial.self l.spine.items (document_at l.self l.made) ≡ join (document_at l.initial.self l.fn.front) (document_at l.initial.self l.fn.back);
}

abbrev pub decreases-loop-seq : goal.decreases-loop-seq
decreases-loop-seq l = vec_len l.spine
