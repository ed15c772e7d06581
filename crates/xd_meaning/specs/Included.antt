-- Inclusion of types (Hosoya, Vouillon and Pierce, TOPLAS 2005: subtyping).
use Rattle.std.specs.Prelude.{◌≡◌, true, ◌⊎◌, List, [], ◌∷◌}
use Rattle.xd_doc.specs.Document.{Document, is_proper}
use Rattle.xd_syntax.specs.Tree.{Tree, Definitions}
use Rattle.xd_syntax.specs.Fits.{Fits}

-- the document fits one of these types
abbrev pub FitsSome : Definitions → List Tree → Document → Type 0
FitsSome E [] d = ⊥
FitsSome E (T ∷ Ts) d = Fits E T d ⊎ FitsSome E Ts d

-- every proper document that fits the type fits one of the others
abbrev pub Included : Definitions → Tree → List Tree → Type 0
Included E T Us = (d : Document) → is_proper d ≡ true → Fits E T d → FitsSome E Us d
