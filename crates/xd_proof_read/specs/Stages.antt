-- How far the lines of goals have been read.
use Rattle.std.specs.Prelude.{◌≡◌, ℕ, ◌+◌, List, [], ◌∷◌, Option, None, Some, MatchOption}
use Rattle.xd_syntax.specs.Tree.{Tree}
use Rattle.xd_syntax.specs.Table.{Row}
use Rattle.xd_syntax.specs.Kept.{ProgramTable}
use Rattle.xd_meaning.specs.Violation.{Lined}
use Rattle.xd_proof.specs.Parts.{ProofLine}
use Rattle.xd_proof.specs.Form.{GoalBlock, block_length, goals_from}
use Rattle.xd_proof.specs.Course.{Course, at_count, at_first_goal, at_left, in_rights, in_cases, at_end, plain_block, next}
use Rattle.xd_proof.specs.Goals.{IsLinedAt, AreGoalsAt}
use Rattle.xd_proof_read.specs.declared.naming.Naming.{Naming}
use Rattle.xd_proof_read.specs.declared.said.Said.{Said}
use Rattle.xd_proof_read.specs.declared.stages.Ended.{Ended}
use Rattle.xd_proof_read.specs.declared.stages.Stage.{Stage}
use Rattle.xd_proof_read.specs.declared.stages.Stage.TheVariants as stages
use Rattle.xd_proof_read.specs.Said.{IsPart, Says}

-- how many lines goals take
abbrev pub lines_of : List (GoalBlock Tree) → ℕ
lines_of [] = 0
lines_of (b ∷ bs) = block_length b + lines_of bs

-- the goal, with the number of its first line: after these, the first of which begins on the line
-- `first`
abbrev pub lined_behind : (first : ℕ) → List (GoalBlock Tree) → GoalBlock Tree → Lined
lined_behind first bs b = record { line = first + lines_of bs; goal = record { left = b.left; rights = b.rights; empty_right = b.empty_right; cases = b.cases } }

-- the goals that were read to their ends, of so many
pub record AreEnded (types : List Row) (first : ℕ) (made : Ended) (n : ℕ) (bs : List (GoalBlock Tree)) : Type 0 where
  pub count : made.count ≡ n
  pub goals : AreGoalsAt types made.goals.items (goals_from first bs)

-- what was read has come so far; the first goal begins on the line `first`
abbrev pub IsStage : List Row → (first : ℕ) → Stage → Course Tree → Type 0
IsStage types first stages.AtCount at_count = Unit {0}
IsStage types first (stages.AtFirstGoal n) (at_first_goal m) = n ≡ m
IsStage types first (stages.AtLeft ended line) (at_left n bs) = AreEnded types first ended n bs × (line ≡ first + lines_of bs)
IsStage types first (stages.InRights ended goal) (in_rights n bs T Us) = AreEnded types first ended n bs × IsLinedAt types goal (lined_behind first bs (plain_block T Us))
IsStage types first (stages.InCases ended goal) (in_cases n bs b) = AreEnded types first ended n bs × IsLinedAt types goal (lined_behind first bs b)
IsStage types first (stages.AtEnd made) (at_end bs) = AreGoalsAt types made.items (goals_from first bs)
IsStage types first _ _ = ⊥

-- how many lines are after a course
abbrev pub passed : Course Tree → ℕ
passed at_count = 0
passed (at_first_goal n) = 1
passed (at_left n bs) = lines_of bs + 2
passed (in_rights n bs T Us) = lines_of bs + block_length (plain_block T Us) + 1
passed (in_cases n bs b) = lines_of bs + block_length b + 1
passed (at_end bs) = lines_of bs + 2

-- the stage after a line, where it may stand there
abbrev pub IsNext : List Row → (first : ℕ) → Course Tree → ProofLine Tree → Option Stage → Type 0
IsNext types first c p after = MatchOption after (next c p ≡ None) (λ s. (d : Course Tree) × (next c p ≡ Some d) × IsStage types first s d)

-- Wherever this line with this number is read at this stage, what is made is the stage after it.
abbrev pub LeadsTo : Stage → Said → (line : ℕ) → Option Stage → Type 0
LeadsTo stage said line after =
    (types : List Row) (first : ℕ) (c : Course Tree) (p : ProofLine Tree) → IsStage types first stage c → IsPart types said p → line + 1 ≡ first + passed c → IsNext types first c p after

-- the line says what may stand here, and the course after it is this
pub record GoesTo (p : ProgramTable) (naming : Naming) (line : List ℕ) (c d : Course Tree) : Type 0 where
  pub part : ProofLine Tree
  pub says : Says p naming line part
  pub goes : next c part ≡ Some d

-- Wherever this line, which has this number, stands after this stage: what is made is the stage
-- after it, if it may stand there.
abbrev pub IsLineTaken : ProgramTable → Naming → List ℕ → Stage → (number : ℕ) → List Row → Option Stage → Type 0
IsLineTaken p naming line stage number types made =
    (first : ℕ) (c : Course Tree) → IsStage p.types first stage c → number + 1 ≡ first + passed c →
    MatchOption made ((d : Course Tree) → GoesTo p naming line c d → ⊥) (λ s. (d : Course Tree) × GoesTo p naming line c d × IsStage types first s d)
