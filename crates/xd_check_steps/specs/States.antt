-- States of expressions: what they accept, and that old ones stay.
use Rattle.std.specs.Prelude.{◌≡◌, true, ◌↔◌, ◌⊎◌, List, [], ◌∷◌, ◌++◌, Option, Some, None}
use Rattle.xd_doc.specs.Document.{Document, empty, is_proper}
use Rattle.xd_auto.specs.declared.auto.State.{State}
use Rattle.xd_auto.specs.Automaton.{Automaton, Extends, KeepsAccepting, accepts}
use Rattle.xd_syntax.specs.Fits.{Split}

-- old states stay, with what they accept
pub record Grows (old new : Automaton) : Type 0 where
  pub extends : Extends old new
  pub keeps : KeepsAccepting old new

-- the state accepts exactly the proper documents that meet the fact
abbrev pub AcceptsJust : Automaton → State → (Document → Type 0) → Type 0
AcceptsJust a s A = (d : Document) → is_proper d ≡ true → (accepts a d s ≡ true) ↔ A d

-- a document that the first state accepts, then one that the next accepts, and so on
abbrev pub AcceptedInTurn : Automaton → List State → Document → Type 0
AcceptedInTurn a [] d = d ≡ empty
AcceptedInTurn a (s ∷ ss) d = Split (λ x. accepts a x s ≡ true) (AcceptedInTurn a ss) d

-- one of the states accepts the document
abbrev pub AcceptedBySome : Automaton → List State → Document → Type 0
AcceptedBySome a [] d = ⊥
AcceptedBySome a (s ∷ ss) d = (accepts a d s ≡ true) ⊎ AcceptedBySome a ss d

-- the first state accepts the document, and the second doesn't
abbrev pub IsMisfit : Automaton → State → State → Document → Type 0
IsMisfit a s t d = (accepts a d s ≡ true) × (accepts a d t ≡ true → ⊥)

-- the states with the one that was found, if there is one
abbrev pub with_found : List State → Option State → List State
with_found ss None = ss
with_found ss (Some s) = ss ++ s ∷ []
