use Rattle.std.proofs.Common.{◌+◌, ◌≤◌, length, vec_len}
use Rattle.xd_doc.specs.Document.{size}
use Rattle.xd_doc.specs.StoreNodes.{AreClosed, IsMet, Keeps}
use Rattle.xd_doc.specs.Stored.{document_at}
use Rattle.xd_doc.proofs.CopyLemmas.{AreCopied, has_copy}
use Rattle.xd_doc.proofs.store.Store.copy_out.Given as goal

abbrev pub invariant-loop-place : goal.invariant-loop-place
invariant-loop-place l = record {
  copied : AreCopied l.self l.into l.copies;
  keeps : Keeps l.initial.into l.into;
  start : IsMet (has_copy l.copies) l.reached.items l.fn.seq.node;
  closed : AreClosed l.nodes.items (has_copy l.copies) l.reached.items;
  once : length l.into + vec_len l.reached ≤ length l.initial.into + length l.self;
  few : length l.into + vec_len l.reached ≤ length l.initial.into + size (document_at l.self l.fn.seq);
}

abbrev pub decreases-loop-place : goal.decreases-loop-place
decreases-loop-place l = vec_len l.reached
