-- Faults and warnings of the code as lines of the definition.
use Rattle.std.specs.Prelude.{cond, List, [], ◌∷◌}
use Rattle.xd_doc.specs.Document.{Document}
use Rattle.xd_syntax.specs.CheckFaults.{Line, is_warning, faults_among}
use Rattle.xd_syntax.specs.declared.fault.Fault.{Fault}
use Rattle.xd_syntax.specs.declared.fault.Warning.{Warning}
use Rattle.xd_meaning.specs.KeptLines.{IsFaultOf, IsWarningOf}

-- one for one, in order
abbrev pub AllPaired : {A B : Type 0} → (A → B → Type 0) → List A → List B → Type 0
AllPaired R [] [] = Unit {0}
AllPaired R [] (y ∷ ys) = ⊥
AllPaired R (x ∷ xs) [] = ⊥
AllPaired R (x ∷ xs) (y ∷ ys) = R x y × AllPaired R xs ys

abbrev pub AreFaultsOf : List Document → List Line → List Fault → Type 0
AreFaultsOf store ls fs = AllPaired (IsFaultOf store) (faults_among ls) fs

abbrev pub warnings_among : List Line → List Line
warnings_among [] = []
warnings_among (l ∷ ls) = cond (is_warning l.kind) (l ∷ warnings_among ls) (warnings_among ls)

abbrev pub AreWarningsOf : List Line → List Warning → Type 0
AreWarningsOf ls ws = AllPaired IsWarningOf (warnings_among ls) ws
