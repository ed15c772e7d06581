use Rattle.std.proofs.Common.{ℕ, ◌≡◌, ◌+◌, ◌<◌, ◌≤◌, ◌⊎◌, vec_len}
use Rattle.std.specs.BinaryHeap.{IsHeap, heap_items}
use Rattle.std.specs.List.{Contains}
use Rattle.std.specs.Ordering.{nat_cmp}
use Rattle.xd_doc.specs.Document.{size}
use Rattle.xd_doc.specs.StoreNodes.{AreClosed, IsMet, documents}
use Rattle.xd_doc.specs.Stored.{at_node}
use Rattle.xd_doc.proofs.CopyLemmas.{IsLast, sizes}
use Rattle.xd_doc.proofs.store.reached_from.Given as goal

-- Each item of a document that waits is paid for once: by its own place, or by those of its parts.
abbrev pub invariant-loop-place : goal.invariant-loop-place
invariant-loop-place l = record {
  heap : IsHeap nat_cmp (heap_items l.waiting);
  waits : (i : ℕ) → Contains (heap_items l.waiting) i → (i < l.above) ⊎ ((i ≡ l.above) × IsLast l.reached.items l.above);
  start : IsMet (Contains (heap_items l.waiting)) l.reached.items l.fn.seq.node;
  closed : AreClosed l.nodes.items (Contains (heap_items l.waiting)) l.reached.items;
  once : vec_len l.reached + l.above ≤ vec_len l.nodes;
  few : vec_len l.reached + sizes (documents l.nodes.items) (heap_items l.waiting) ≤ size (at_node (documents l.nodes.items) l.fn.seq.node);
}

abbrev pub decreases-loop-place : goal.decreases-loop-place
decreases-loop-place l = sizes (documents l.nodes.items) (heap_items l.waiting)
