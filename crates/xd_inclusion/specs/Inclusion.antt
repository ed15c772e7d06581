-- What tells of two types whether the first is included in the second.
use Rattle.std.specs.Prelude.{◌≡◌, ℕ, true, List, [], ◌∷◌, Some}
use Rattle.xd_doc.specs.Document.{Document, is_proper}
use Rattle.xd_syntax.specs.Tree.{Definitions, Tree}
use Rattle.xd_syntax.specs.Fits.{Fits}
use Rattle.xd_syntax.specs.NameFaults.{known_types}
use Rattle.xd_syntax.specs.Program.{ProgramTree, names_of}
use Rattle.xd_meaning.specs.Violation.{Lined, goals_of}
use Rattle.xd_meaning.specs.Consistent.{Goal, IsConsistent}
use Rattle.xd_rules.specs.Rules.{numbered}
use Rattle.xd_proof.specs.Form.{IsProofText}
use Rattle.xd_proof.specs.TypeTexts.{SpellsType}

-- The text is a proof text over the types of the program, whose goals keep the rules, and whose
-- first goal claims that every document of the one type is one of the other.
pub record ProvesInclusion (P : ProgramTree) (L R : Tree) (text : List ℕ) : Type 0 where
  pub goals : List Lined
  pub spelled : IsProofText (SpellsType (known_types P)) text goals
  pub consistent : IsConsistent (names_of P) (goals_of goals)
  pub claim : Goal
  pub first : numbered (goals_of goals) 1 ≡ Some claim
  pub left : claim.left ≡ L
  pub rights : claim.rights ≡ R ∷ []

-- a proper document that fits the first type and not the second
pub record FitsAlone (E : Definitions) (L R : Tree) (d : Document) : Type 0 where
  pub proper : is_proper d ≡ true
  pub left : Fits E L d
  pub right : Fits E R d → ⊥
