-- Least documents below a limit of size.
use Rattle.std.specs.Prelude.{ℕ, ◌<◌, min}
use Rattle.xd_doc.specs.Document.{Document, size}
use Rattle.xd_doc.specs.Least.{IsLeast}

-- A document of a set; where some document of the set has a size below the limit, a least one.
-- Where none has, its own size isn't below the limit either.
pub record IsLeastUpTo (limit : ℕ) (In : Document → Type 0) (d : Document) : Type 0 where
  pub within : In d
  pub least : (e : Document) → In e → size e < limit → IsLeast In d

-- sizes as they are told apart below the limit alone; a document that is least by them is least up
-- to the limit
abbrev pub size_up_to : ℕ → Document → ℕ
size_up_to limit d = min (size d) limit
