-- The documents that `minus` shows, as those of the first type alone.
use Rattle.xd_doc.specs.Document.{Document}
use Rattle.xd_syntax.specs.Fits.{Fits}
use Rattle.xd_syntax.specs.Tree.{Definitions, Tree}

-- the document fits the first type and not the second
abbrev pub IsAlone : Definitions → (L R : Tree) → Document → Type 0
IsAlone E L R d = Fits E L d × (Fits E R d → ⊥)
