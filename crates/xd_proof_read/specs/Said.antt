-- What a line of a list of goals says, as it is read.
use Rattle.std.specs.Prelude.{◌≡◌, ◌<◌, ℕ, codes, List, Option, MatchOption}
use Rattle.xd_syntax.specs.Tree.{Tree}
use Rattle.xd_syntax.specs.Table.{Row}
use Rattle.xd_syntax.specs.SoundTables.{IsTypeAt}
use Rattle.xd_syntax.specs.Kept.{ProgramTable}
use Rattle.xd_proof.specs.Parts.{ProofLine, first_title, second_title, type_count, type_part, goal_count, goal_part, left_part, right_part, empty_part, case_part, end_part, SpellsPart}
use Rattle.xd_proof.specs.Cases.{IsCase}
use Rattle.xd_proof_read.specs.declared.naming.Naming.{Naming}
use Rattle.xd_proof_read.specs.declared.said.Said.{Said}
use Rattle.xd_proof_read.specs.declared.said.Said.TheVariants as said
use Rattle.xd_proof_read.specs.declared.said.Keyword.{Keyword}
use Rattle.xd_proof_read.specs.declared.said.Keyword.TheVariants as keywords
use Rattle.xd_proof_read.specs.Naming.{Names, SpellsTypeOf}

abbrev pub keyword_text : Keyword → List ℕ
keyword_text keywords.Goals = codes "goals"
keyword_text keywords.Goal = codes "goal"
keyword_text keywords.Left = codes "left"
keyword_text keywords.Right = codes "right"
keyword_text keywords.Empty = codes "empty"
keyword_text keywords.Case = codes "case"

-- a part of a list of goals
abbrev pub IsOfGoals : ProofLine Tree → Type 0
IsOfGoals first_title = ⊥
IsOfGoals second_title = ⊥
IsOfGoals (type_count n) = ⊥
IsOfGoals (type_part n T) = ⊥
IsOfGoals _ = Unit {0}

-- what was read is this part
abbrev pub IsPart : List Row → Said → ProofLine Tree → Type 0
IsPart types (said.Goals n) (goal_count m) = (n ≡ m) × (0 < m)
IsPart types (said.Goal n) (goal_part m) = n ≡ m
IsPart types (said.Left id) (left_part T) = IsTypeAt types T id
IsPart types (said.Right id) (right_part T) = IsTypeAt types T id
IsPart types (said.Empty n) (empty_part m) = n ≡ m
IsPart types (said.Case made) (case_part c) = IsCase made c
IsPart types said.End end_part = Unit {0}
IsPart types _ _ = ⊥

-- the line says this part of a list of goals
pub record Says (p : ProgramTable) (naming : Naming) (line : List ℕ) (part : ProofLine Tree) : Type 0 where
  pub spelled : SpellsPart (SpellsTypeOf p) (Names p naming) line part
  pub of_goals : IsOfGoals part

-- what is made is what the line says, if it says such a part
abbrev pub IsLineRead : ProgramTable → Naming → List ℕ → List Row → Option Said → Type 0
IsLineRead p naming line types made = MatchOption made ((part : ProofLine Tree) → Says p naming line part → ⊥) (λ said. (part : ProofLine Tree) × Says p naming line part × IsPart types said part)
