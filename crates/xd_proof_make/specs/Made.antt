-- Goals of a proof that are made from rows of a table.
use Rattle.std.specs.Prelude.{◌≡◌, ℕ, ◌<◌, ◌≤◌, true, false, List, ◌∷◌, length, Option, Some, None}
use Rattle.std.specs.List.{AllByRecursion, AllZip}
use Rattle.xd_syntax.specs.Tree.{Tree, uses_only}
use Rattle.xd_syntax.specs.TypeDepth.{depth}
use Rattle.xd_syntax.specs.ShallowTables.{IsShallow}
use Rattle.xd_syntax.specs.Shallow.{nesting_limit}
use Rattle.xd_syntax.specs.NameFaults.{known_types}
use Rattle.xd_syntax.specs.Program.{ProgramTree, names_of}
use Rattle.xd_syntax.specs.Kept.{ProgramTable, program_tree}
use Rattle.xd_auto.specs.declared.auto.State.{State}
use Rattle.xd_auto.specs.Automaton.{Automaton}
use Rattle.xd_meaning.specs.Consistent.{Goal, IsConsistent}
use Rattle.xd_rules.specs.Rules.{numbered}
use Rattle.xd_meaning.specs.Violation.{Lined, goals_of}
use Rattle.xd_rules.specs.Meaning.{right_heads}
use Rattle.xd_state_heads.specs.Moves.{AreBelow, heads_of, is_last_in}
use Rattle.xd_goals.specs.Rows.{GoalRow, TableView, claim_of, row_at}
use Rattle.xd_goals.specs.Standing.{IsBegun}
use Rattle.xd_goals.specs.declared.table.ChoiceNode.{ChoiceNode}
use Rattle.xd_heads.specs.CellsView.{CellsView}
use Rattle.xd_heads.specs.Mirrors.{IsTypeState, Mirrors, continuation_of}
use Rattle.xd_proof.specs.Lines.{IsNumber}
use Rattle.xd_proof.specs.Goals.{IsGoalAt, AreGoalsAt}
use Rattle.xd_proof.specs.LinesFit.{LinesFit}
use Rattle.xd_proof.specs.declared.proof.ProofGoal.{ProofGoal}
use Rattle.xd_proof_write.specs.SecondText.{distinct_types, types_of}
use Rattle.xd_proof_write.specs.Laws.{IsWritableGoal}
use Rattle.xd_proof_make.specs.Written.{AreTypes, IsWritten}
use Rattle.xd_proof_make.specs.Met.{AreReached, number_in}
use Rattle.xd_proof_make.specs.Few.{IsSmall}
use Rattle.xd_proof_make.specs.Known.{AreKnown, HasKnown}
use Rattle.xd_proof_make.specs.Ordered.{IsWritable}
use Rattle.xd_syntax.specs.declared.types.TypeId.{TypeId}

-- the left and the rights are states of types
pub record IsOfTypes (c : CellsView) (row : GoalRow) : Type 0 where
  pub left : IsTypeState c row.left
  pub rights : AllByRecursion (IsTypeState c) row.rights

-- a goal is one between the types of a row's states
pub record IsBetween (C : State → Option Tree) (row : GoalRow) (g : Goal) : Type 0 where
  pub left : C row.left ≡ Some g.left
  pub rights : AreTypes C row.rights g.rights

-- the type uses no name but those that the program defines
abbrev pub UsesDefined : ProgramTree → Tree → Type 0
UsesDefined P T = uses_only (known_types P) T ≡ true

-- The goals of a proof keep its rules. They are those that a goal of the table leads to through
-- leaves, itself first, each once, between the types of their states. Each begins on line 1. A text
-- can spell them: no number is too long, that of the goals and of their types included.
pub record IsProofOf (p : ProgramTable) (c : CellsView) (t : TableView) (goal : ℕ) (proof : List ProofGoal) : Type 0 where
  pub lined : List Lined
  pub goals : AreGoalsAt p.types proof lined
  pub lines : AllByRecursion (λ (g : ProofGoal). g.line ≡ 1) proof
  pub consistent : IsConsistent (names_of (program_tree p)) (goals_of lined)
  pub writable : AllByRecursion IsWritableGoal (goals_of lined)
  pub goal_count : IsNumber (length (goals_of lined))
  pub type_count : IsNumber (length (distinct_types (goals_of lined)))
  pub rows : List ℕ
  pub numbers : List ℕ
  pub reached : AreReached t goal rows numbers
  pub types : AllZip (λ g made. IsBetween (continuation_of p.types c) (row_at t.rows g) made) rows (goals_of lined)
  -- on a shallow program no type of the goals is deeper than a text may be nested
  pub shallow : IsShallow p.types → AllByRecursion (λ T. depth T ≤ nesting_limit) (types_of (goals_of lined))
  pub claim : Goal
  pub first : numbered (goals_of lined) 1 ≡ Some claim
  -- where the claim's types use defined names alone, all types of the goals do
  pub named : AllByRecursion (UsesDefined (program_tree p)) (claim.left ∷ claim.rights) → AllByRecursion (UsesDefined (program_tree p)) (types_of (goals_of lined))
  pub between : IsBetween (continuation_of p.types c) (row_at t.rows goal) claim

-- the left cannot be empty; or it can, and so can the right of this number
abbrev pub IsEmptyRight : Automaton → State → List State → Option ℕ → Type 0
IsEmptyRight a left rights None = is_last_in a left ≡ false
IsEmptyRight a left rights (Some n) = (is_last_in a left ≡ true) × (r : State) × (numbered rights n ≡ Some r) × (is_last_in a r ≡ true)

-- the same, of an automaton with so many states
pub record IsTypedRow (c : CellsView) (states : ℕ) (row : GoalRow) : Type 0 where
  pub types : IsOfTypes c row
  pub left_there : row.left.number < states
  pub rights_there : AllByRecursion (λ (s : State). s.number < states) row.rights

pub record HasTypes (states : List (Option TypeId)) (row : GoalRow) : Type 0 where
  pub left : HasKnown states row.left
  pub rights : AllByRecursion (HasKnown states) row.rights

-- a row that has its choices, by the rules, and whose states are known
pub record CanWrite (c : CellsView) (a : Automaton) (t : TableView) (states : List (Option TypeId)) (numbers : List ℕ) (g : ℕ) : Type 0 where
  pub left_there : (row_at t.rows g).left.number < length a
  pub rights_there : AreBelow (length a) (row_at t.rows g).rights
  pub begun : IsBegun a (claim_of (row_at t.rows g)) (row_at t.rows g).choices
  pub writable : AllByRecursion (IsWritable t.nodes (length numbers) (length (right_heads (heads_of a) (claim_of (row_at t.rows g))))) (row_at t.rows g).choices
  pub of_types : IsOfTypes c (row_at t.rows g)
  pub types : HasTypes states (row_at t.rows g)
  pub program : ProgramTable
  pub mirrors : Mirrors program c a
  pub known : AreKnown program c states

-- the goal is written from the row
pub record IsGoalMade (p : ProgramTable) (c : CellsView) (a : Automaton) (nodes : List ChoiceNode) (numbers : List ℕ) (row : GoalRow) (made : ProofGoal) : Type 0 where
  pub goal : Goal
  pub is : IsGoalAt p.types made goal
  pub written : IsWritten (names_of (program_tree p)) a (continuation_of p.types c) nodes (number_in numbers) row goal
  pub line : made.line ≡ 1
  pub fit : LinesFit made
  pub small : IsSmall (names_of (program_tree p)) goal
