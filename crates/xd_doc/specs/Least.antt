-- Least documents of sets of documents.
use Rattle.std.specs.Prelude.{ℕ, ◌≤◌}
use Rattle.xd_doc.specs.Document.{Document, size}

-- a least document of a set by a measure: one of its documents, and none of them measures less
pub record IsLeastBy (measure : Document → ℕ) (In : Document → Type 0) (d : Document) : Type 0 where
  pub within : In d
  pub least : (e : Document) → In e → measure d ≤ measure e

-- a least document of a set: none of its documents has a smaller size
abbrev pub IsLeast : (Document → Type 0) → Document → Type 0
IsLeast = IsLeastBy size
