-- What a proof text proves.
use Rattle.std.specs.Prelude.{◌≡◌, ℕ, List, ◌∷◌}
use Rattle.std.specs.List.{AllByRecursion}
use Rattle.xd_syntax.specs.NameFaults.{known_types}
use Rattle.xd_syntax.specs.Program.{ProgramTree, names_of}
use Rattle.xd_meaning.specs.Violation.{Lined, goals_of}
use Rattle.xd_meaning.specs.Consistent.{ClaimHolds}
use Rattle.xd_parse_trees.specs.Means.{IsProgramText}
use Rattle.xd_proof.specs.Form.{IsProofText}
use Rattle.xd_proof.specs.TypeTexts.{SpellsType}
use Rattle.xd_proof_write.specs.ClaimText.{claim_text}
use Rattle.xd_proof_write.specs.SecondText.{second_text_of}

-- The text is one of a consistent proof over the definitions, whose claims hold. The line names the
-- first goal.
pub record ProvesClaim (definitions text line : List ℕ) : Type 0 where
  pub program : ProgramTree
  pub defined : IsProgramText definitions program
  pub goals : List Lined
  pub spelled : IsProofText (SpellsType (known_types program)) text goals
  pub holds : AllByRecursion (ClaimHolds (names_of program)) (goals_of goals)
  pub written : (first : Lined) (others : List Lined) → goals ≡ first ∷ others → line ≡ claim_text first.goal

-- the goals that a proof text spells, written in the second format
pub record SpellsAgain (definitions text again : List ℕ) : Type 0 where
  pub program : ProgramTree
  pub defined : IsProgramText definitions program
  pub goals : List Lined
  pub spelled : IsProofText (SpellsType (known_types program)) text goals
  pub written : again ≡ second_text_of (goals_of goals)
