-- What a table keeps by itself, and what the work on it rests on.
use Rattle.std.specs.Prelude.{◌≡◌, ℕ, ◌<◌, true, List, [], length, Some, slice_get}
use Rattle.std.specs.List.{AllByRecursion}
use Rattle.xd_doc.specs.Document.{Document}
use Rattle.xd_auto.specs.declared.auto.State.{State}
use Rattle.xd_auto.specs.Automaton.{Automaton}
use Rattle.xd_rules.specs.Heads.{Head, matches}
use Rattle.xd_rules.specs.Rules.{Claim, numbered}
use Rattle.xd_state_heads.specs.Moves.{heads_of}
use Rattle.xd_goals.specs.Rows.{GoalRow, TableView, row_at, claim_of, goal_case, IsUnbroken, RowsBelow}
use Rattle.xd_goals.specs.Trees.{HasTree}
use Rattle.xd_goals.specs.Kept.{IsWhole, view_of}
use Rattle.xd_goals.specs.declared.goals.Goals.{Goals}
use Rattle.xd_goals.specs.Standing.{AreSeparated, IsBegun, IsCaseTree, IsOpen}
use Rattle.xd_goals.specs.Reached.{LeadsTo}
use Rattle.xd_goals.specs.declared.table.Choice.{Choice}
use Rattle.xd_goals.specs.declared.table.GoalCase.{GoalCase}
use Rattle.xd_goals.specs.declared.table.Standing.TheVariants.{Holds}

-- each goal that a leaf of the choice names is marked as settled
abbrev pub LeadsToSettled : TableView → Choice → Type 0
LeadsToSettled t = LeadsTo (λ g. (row_at t.rows g).settled ≡ true) t.nodes

-- it holds, and leads to goals alone that are marked as settled
pub record IsSettledRow (t : TableView) (row : GoalRow) : Type 0 where
  pub holds : row.standing ≡ Holds
  pub leads : AllByRecursion (LeadsToSettled t) row.choices

-- so does each goal that is marked so
abbrev pub StaySettled : TableView → Type 0
StaySettled t = (i : ℕ) → (row_at t.rows i).settled ≡ true → IsSettledRow t (row_at t.rows i)

-- What is so of every table, whatever automaton its goals speak of: no two goals have the same left
-- and the same rights in the same order; a tree stands at each choice's root, and the case is among
-- the dependents of each goal that a leaf names; each choice has a flag, and where the flag isn't
-- set no leaf names a refuted goal; no leaf of a goal that holds does; and goals that are marked as
-- settled hold, and lead through leaves to such goals alone.
pub record KeepsLists (t : TableView) : Type 0 where
  pub unlike : (i j : ℕ) → i < length t.rows → j < length t.rows → claim_of (row_at t.rows i) ≡ claim_of (row_at t.rows j) → i ≡ j
  pub trees : (i place : ℕ) (k : Choice) → slice_get (row_at t.rows i).choices place ≡ Some k → HasTree t (λ _. Unit {0}) (goal_case i place) k.root
  pub flags : (i : ℕ) → length (row_at t.rows i).broken ≡ length (row_at t.rows i).choices
  pub unbroken : (i place : ℕ) (k : Choice) → slice_get (row_at t.rows i).choices place ≡ Some k → IsUnbroken (row_at t.rows i) place → IsOpen t k
  pub opens : (i : ℕ) → (row_at t.rows i).standing ≡ Holds → AllByRecursion (IsOpen t) (row_at t.rows i).choices
  pub settled : StaySettled t

-- what is so of every table, as it is kept
pub record IsKept (g : Goals) : Type 0 where
  pub whole : IsWhole g
  pub lists : KeepsLists (view_of g)

-- Both together, as work on a goal needs and leaves them.

-- a choice of a goal, whose tree's leaves name goals with the case among their dependents
pub record ChoiceStands (a : Automaton) (t : TableView) (owner : GoalCase) (c : Claim State) (k : Choice) : Type 0 where
  pub head : Head State
  pub found : numbered (heads_of a c.left) k.head ≡ Some head
  pub matched : matches head.kind k.atom ≡ true
  pub has : HasTree t (IsCaseTree a t.rows owner c head k.atom) owner k.root

-- a goal that holds: it has its choices, and all their trees are open
pub record RowHolds (a : Automaton) (t : TableView) (c : Claim State) (choices : List Choice) : Type 0 where
  pub begun : IsBegun a c choices
  pub opens : AllByRecursion (IsOpen t) choices

-- the facts that name no document
pub record FactsOnAutomaton (a : Automaton) (t : TableView) : Type 0 where
  pub states : RowsBelow (length a) t.rows
  pub unlike : (i j : ℕ) → i < length t.rows → j < length t.rows → claim_of (row_at t.rows i) ≡ claim_of (row_at t.rows j) → i ≡ j
  pub choices : (i place : ℕ) (k : Choice) → slice_get (row_at t.rows i).choices place ≡ Some k → ChoiceStands a t (goal_case i place) (claim_of (row_at t.rows i)) k
  pub begun : (i : ℕ) → ¬ ((row_at t.rows i).choices ≡ []) → IsBegun a (claim_of (row_at t.rows i)) (row_at t.rows i).choices
  pub flags : (i : ℕ) → length (row_at t.rows i).broken ≡ length (row_at t.rows i).choices
  pub unbroken : (i place : ℕ) (k : Choice) → slice_get (row_at t.rows i).choices place ≡ Some k → IsUnbroken (row_at t.rows i) place → IsOpen t k
  pub holds : (i : ℕ) → (row_at t.rows i).standing ≡ Holds → RowHolds a t (claim_of (row_at t.rows i)) (row_at t.rows i).choices
  pub settled : StaySettled t

pub record FactsOn (a : Automaton) (ds : List Document) (t : TableView) : Type 0 where
  pub facts : FactsOnAutomaton a t
  pub refuted : AreSeparated a ds t.rows
