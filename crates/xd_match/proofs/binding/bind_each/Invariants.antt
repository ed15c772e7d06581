use Rattle.std.proofs.Common.{ℕ, ◌≡◌, ◌<◌, length, get_or, Vec, Global}
use Rattle.xd_doc.specs.Document.{empty}
use Rattle.xd_doc.specs.Stored.{document_at}
use Rattle.xd_doc.specs.StoredSeq.{BelongsTo}
use Rattle.xd_doc.specs.StoreNodes.{Keeps}
use Rattle.xd_doc.specs.declared.store.Seq.{Seq}
use Rattle.xd_match.specs.declared.binding.Piece.{Piece}
use Rattle.xd_match.specs.Taking.{pieces_then}
use Rattle.xd_match.proofs.binding.bind_each.Given as goal

abbrev pub invariant-loop-x : goal.invariant-loop-x
invariant-loop-x l = record {
  count : length l.bound.items ≡ l.x;
  end_is : l.x-end ≡ length l.items.items;
  keeps : Keeps l.fn.store l.store;
  belong : (k : ℕ) (e : Seq) → k < l.x → BelongsTo l.store (get_or l.bound.items k e);
  bindings : (k : ℕ) (e : Seq) (f : Vec Piece Global) → k < l.x → document_at l.store (get_or l.bound.items k e) ≡ pieces_then l.fn.store (get_or l.items.items k f).items empty;
}
