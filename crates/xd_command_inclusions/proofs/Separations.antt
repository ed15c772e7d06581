-- Least documents that are written.
use Rattle.std.proofs.Common.{◌≡◌, ℕ, ◌<◌, ◌≤◌, List, ◌++◌, length, length-append, sym, subst, arith}
use Rattle.std.specs.Prelude.{codes}
use Rattle.xd_doc.specs.Document.{Document, canonical_text}
use Rattle.xd_doc.specs.Least.{IsLeast}
use Rattle.xd_doc.specs.LeastUpTo.{IsLeastUpTo}
use Rattle.xd_least.specs.Least.{size_limit}
use Rattle.xd_least.proofs.SizeLemmas.{least_written}
use Rattle.xd_command_steps.specs.Output.{Output, separated}

-- what is written around a document's text is no shorter
pub least_separated : (In : Document → Type 0) (d : Document) (o : Output) → IsLeastUpTo size_limit In d → o ≡ separated d → length o.text < size_limit → IsLeast In d
least_separated In d o w e fits = least_written In d o.text w (subst (λ (p : Output). length (canonical_text d) ≤ length p.text) (sym e) (longer (codes "no: ") (canonical_text d) (codes "\n"))) fits
  where
    longer : (x y z : List ℕ) → length y ≤ length (x ++ y ++ z)
    longer x y z = simp length-append (omega arith)
