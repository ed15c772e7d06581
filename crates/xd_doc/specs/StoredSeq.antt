-- When a `Seq` belongs to a store.
use Rattle.std.specs.Prelude.{◌≡◌, ℕ, ◌<◌, true, List, length, Option, Some, None, is_some}
use Rattle.xd_doc.specs.Document.{Document, is_proper, has_item}
use Rattle.xd_doc.specs.Stored.{document_at}
use Rattle.xd_doc.specs.declared.store.Seq.{Seq}

-- one of the first n nodes, or none
abbrev pub IsBelow : ℕ → Option ℕ → Type 0
IsBelow n None = Unit {0}
IsBelow n (Some i) = i < n

-- the `Seq` belongs to the store: its node is there, and stands for a proper document with an item
pub record BelongsTo (ds : List Document) (seq : Seq) : Type 0 where
  pub place : IsBelow (length ds) seq.node
  pub proper : is_proper (document_at ds seq) ≡ true
  pub filled : has_item (document_at ds seq) ≡ is_some seq.node
