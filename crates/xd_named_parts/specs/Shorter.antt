-- Definitions that say the same with other names.
use Rattle.std.specs.Prelude.{◌≡◌, ◌↔◌, ℕ, true, List, Some, slice_get}
use Rattle.xd_doc.specs.Document.{Document}
use Rattle.xd_same_types.specs.Same.{Meaning}
use Rattle.xd_shown.specs.Bodies.{AreBodies, AreMeant, HasProper}
use Rattle.xd_shown.specs.FreeNames.{AreNewNames}
use Rattle.xd_shown.specs.Shown.{AreNamedFrom, IsShown}
use Rattle.xd_syntax.specs.Program.{ProgramTree}
use Rattle.xd_named_parts.specs.declared.parts.Definitions.{Definitions}

-- a type for each name
pub record AreDefinitions (D : Definitions) : Type 0 where
  pub names : AreNewNames D.names.items
  pub bodies : AreBodies D.pool.types D.names.items D.bodies.items

-- names mean what their types do
abbrev pub AreDefined : Meaning → Definitions → Type 0
AreDefined N D = AreMeant N D.pool.types D.names.items D.bodies.items

-- Whatever the names of the first definitions mean, those of the second ones have meanings by which
-- the first name of each is fitted by the same documents.
abbrev pub SaySame : Definitions → Definitions → Type 0
SaySame D E =
    (N : Meaning) (x y : List ℕ) → AreDefined N D → slice_get D.names.items 0 ≡ Some x → slice_get E.names.items 0 ≡ Some y →
    (M : Meaning) × AreDefined M E × ((d : Document) → (M y d ≡ true) ↔ (N x d ≡ true))

-- The program shows what the first name means, whatever meanings of names are those of their types,
-- unless it means nothing.
abbrev pub ShowsDefinitions : List (List ℕ) → Definitions → ProgramTree → List ℕ → Type 0
ShowsDefinitions taken D P start =
    (N : Meaning) (x : List ℕ) → AreDefined N D → slice_get D.names.items 0 ≡ Some x → HasProper (N x) → IsShown (λ d. N x d ≡ true) taken P start

-- definitions with new names, without those that are taken, that say the same
pub record AreShorter (taken : List (List ℕ)) (D E : Definitions) : Type 0 where
  pub definitions : AreDefinitions E
  pub in_order : AreNamedFrom taken 1 E.names.items
  pub same : SaySame D E
