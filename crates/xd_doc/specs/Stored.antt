-- What the nodes of a store stand for.
use Rattle.std.specs.Prelude.{ℕ, List, Option, Some, None, slice_index_or}
use Rattle.xd_doc.specs.Document.{Document, empty}
use Rattle.xd_doc.specs.declared.store.Seq.{Seq}

-- the document at a node, or the empty one
abbrev pub at_node : List Document → Option ℕ → Document
at_node ds None = empty
at_node ds (Some i) = slice_index_or ds i empty

-- the document that a `Seq` stands for
abbrev pub document_at : List Document → Seq → Document
document_at ds seq = at_node ds seq.node
