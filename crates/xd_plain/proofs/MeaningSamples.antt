-- A program whose meaning is settled within eight unfoldings.
use Rattle.std.proofs.Common.{ℕ, false, List, [], ◌∷◌, ap, ◌++◌, arith}
use Rattle.std.specs.Prelude.{codes}
use Rattle.xd_doc.specs.Document.{Document, empty, element}
use Rattle.xd_syntax.specs.Words.{any_word}
use Rattle.xd_syntax.specs.Tree.{Name, Elem, Val}
use Rattle.xd_syntax.specs.Program.{names_of}
use Rattle.xd_meaning.specs.Meaning.{Stuck, looked_up, done_or_stuck, or_else}
use Rattle.xd_plain.specs.PlainMeaning.{meaning_with}
use Rattle.xd_laws.proofs.Samples.{hiding}
use Rattle.xd_plain.specs.PlainMeaning.{IsSettledWithin}

abbrev x : List ℕ
x = codes "x"

abbrev leaf : Document
leaf = element (codes "b") empty empty

-- its one match is of a document that needs eight unfoldings
hiding_settled : IsSettledWithin (names_of hiding) 8 (λ m. meaning_with m hiding 3 leaf)
hiding_settled m h =
    ap (λ o. or_else o (λ vs. done_or_stuck (looked_up (vs ++ (x, leaf) ∷ []) x) 0) Stuck)
    (h (Elem (record { names = codes "a" ∷ []; except = false }) (Val x (Name any_word))) (element (codes "a") (element (codes "a") leaf empty) empty) (omega arith))
