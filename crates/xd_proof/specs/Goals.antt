-- The goals of a proof, as a program that has their types keeps them.
use Rattle.std.specs.Prelude.{◌≡◌, List}
use Rattle.std.specs.List.{AllByRecursion, AllZip}
use Rattle.xd_syntax.specs.Table.{Row}
use Rattle.xd_syntax.specs.SoundTables.{IsTypeAt}
use Rattle.xd_syntax.specs.Types.{BelongsTo}
use Rattle.xd_meaning.specs.Consistent.{Goal}
use Rattle.xd_meaning.specs.Violation.{Lined}
use Rattle.xd_proof.specs.Cases.{IsCase}
use Rattle.xd_proof.specs.declared.proof.ProofGoal.{ProofGoal}

-- the types of the goal are types of the table
pub record GoalBelongs (types : List Row) (g : ProofGoal) : Type 0 where
  pub left : BelongsTo types g.left
  pub rights : AllByRecursion (BelongsTo types) g.rights.items

abbrev pub GoalsBelong : List Row → List ProofGoal → Type 0
GoalsBelong types goals = AllByRecursion (GoalBelongs types) goals

-- it is this goal
pub record IsGoalAt (types : List Row) (made : ProofGoal) (goal : Goal) : Type 0 where
  pub left : IsTypeAt types goal.left made.left
  pub rights : AllZip (λ id T. IsTypeAt types T id) made.rights.items goal.rights
  pub empty_right : made.empty_right ≡ goal.empty_right
  pub cases : AllZip IsCase made.cases.items goal.cases

-- and begins on this line
pub record IsLinedAt (types : List Row) (made : ProofGoal) (lined : Lined) : Type 0 where
  pub line : made.line ≡ lined.line
  pub goal : IsGoalAt types made lined.goal

-- they are these goals, one for one, in order
abbrev pub AreGoalsAt : List Row → List ProofGoal → List Lined → Type 0
AreGoalsAt types made goals = AllZip (IsLinedAt types) made goals
