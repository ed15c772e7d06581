-- Texts that prove what a row of a table claims.
use Rattle.std.specs.Prelude.{◌≡◌, ℕ, List, Option, Some}
use Rattle.std.specs.List.{AllByRecursion}
use Rattle.xd_syntax.specs.Tree.{Tree}
use Rattle.xd_syntax.specs.NameFaults.{known_types}
use Rattle.xd_syntax.specs.Program.{ProgramTree, names_of}
use Rattle.xd_auto.specs.declared.auto.State.{State}
use Rattle.xd_goals.specs.Rows.{GoalRow}
use Rattle.xd_meaning.specs.Consistent.{Goal, IsConsistent}
use Rattle.xd_rules.specs.Rules.{numbered}
use Rattle.xd_proof_make.specs.Made.{IsBetween, UsesDefined}
use Rattle.xd_proof_write.specs.Laws.{SpellsGoals}

-- the type of a state uses names that the program defines alone
abbrev pub IsOfKnownNames : ProgramTree → (State → Option Tree) → State → Type 0
IsOfKnownNames P C s = (T : Tree) → C s ≡ Some T → UsesDefined P T

-- the types of the row's states do
pub record UsesKnownNames (P : ProgramTree) (C : State → Option Tree) (row : GoalRow) : Type 0 where
  pub left : IsOfKnownNames P C row.left
  pub rights : AllByRecursion (IsOfKnownNames P C) row.rights

-- The text is a proof text over the types of the program; its goals keep the rules, and the first
-- is between the types of the row's states.
pub record ProvesRow (P : ProgramTree) (C : State → Option Tree) (row : GoalRow) (text : List ℕ) : Type 0 where
  pub goals : List Goal
  pub spelled : SpellsGoals (known_types P) text goals
  pub consistent : IsConsistent (names_of P) goals
  pub claim : Goal
  pub first : numbered goals 1 ≡ Some claim
  pub between : IsBetween C row claim
