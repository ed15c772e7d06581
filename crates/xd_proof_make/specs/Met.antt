-- Goals that are met, in order, and the number of each: its place among them, from 1.
use Rattle.std.specs.Prelude.{◌≡◌, ℕ, zero, suc, ◌+◌, Bool, true, List, [], ◌∷◌, length, Some, slice_get, slice_index_or}
use Rattle.std.specs.List.{AllByRecursion}
use Rattle.xd_rules.specs.Rules.{ChoiceTree}
use Rattle.xd_rules.specs.Meaning.{AllLeaves}
use Rattle.xd_doc.specs.Members.{IsOneOf}
use Rattle.xd_goals.specs.Rows.{TableView, row_at}
use Rattle.xd_goals.specs.Trees.{StandsAt}
use Rattle.xd_goals.specs.declared.table.Choice.{Choice}
use Rattle.xd_goals.specs.declared.table.ChoiceNode.{ChoiceNode}
use Rattle.xd_proof.specs.declared.steps.Step.{Step}
use Rattle.xd_proof.specs.declared.steps.Step.TheVariants.{Content, Rest, Split}

-- the goal's number; 0 is none
abbrev pub number_in : List ℕ → ℕ → ℕ
number_in numbers g = slice_index_or numbers g 0

-- the goal has a number
pub record IsMet (numbers : List ℕ) (g : ℕ) : Type 0 where
  pub before : ℕ
  pub is : slice_get numbers g ≡ Some (suc before)

-- the goals that were met have the numbers 1, 2 and so on, in order, and no other has one
pub record AreNumbered (order numbers : List ℕ) : Type 0 where
  pub to : (k g : ℕ) → slice_get order k ≡ Some g → slice_get numbers g ≡ Some (suc k)
  pub from : (g k : ℕ) → slice_get numbers g ≡ Some (suc k) → slice_get order k ≡ Some g

-- how many have no number
abbrev pub unmet : List ℕ → ℕ
unmet [] = 0
unmet (zero ∷ ns) = suc (unmet ns)
unmet (suc n ∷ ns) = unmet ns

-- more goals are met, after those that were
pub record MeetsMore (order numbers order2 numbers2 : List ℕ) : Type 0 where
  pub sized : length numbers2 ≡ length numbers
  pub kept : (g k : ℕ) → slice_get numbers g ≡ Some (suc k) → slice_get numbers2 g ≡ Some (suc k)
  pub front : (k g : ℕ) → slice_get order k ≡ Some g → slice_get order2 k ≡ Some g
  pub numbered : AreNumbered order numbers → AreNumbered order2 numbers2
  pub fewer : unmet numbers2 + length order2 ≡ unmet numbers + length order

-- all pass the test
abbrev pub AllPass : (ℕ → Bool) → List ℕ → Type 0
AllPass p gs = AllByRecursion (λ g. p g ≡ true) gs

-- what a leaf of the choice's tree names
abbrev pub LeadsTo : List ChoiceNode → (ℕ → Type 0) → Choice → Type 0
LeadsTo nodes P k = (tree : ChoiceTree) → StandsAt nodes k.root tree → AllLeaves P tree

-- each leaf that is among the steps names such a goal
abbrev pub IsStepTo : (ℕ → Type 0) → Step → Type 0
IsStepTo P (Content g) = P g
IsStepTo P (Rest g) = P g
IsStepTo P (Split j) = Unit {0}

-- Those that a goal leads to through leaves were met, and no others: they are in each set that the
-- goal is in and that no leaf leads out of.
pub record AreReached (t : TableView) (start : ℕ) (order numbers : List ℕ) : Type 0 where
  pub first : slice_get order 0 ≡ Some start
  pub sized : length numbers ≡ length t.rows
  pub numbered : AreNumbered order numbers
  pub closed : (g : ℕ) → IsOneOf g order → AllByRecursion (LeadsTo t.nodes (IsMet numbers)) (row_at t.rows g).choices
  pub only : (p : ℕ → Bool) → p start ≡ true → ((g : ℕ) → p g ≡ true → AllByRecursion (LeadsTo t.nodes (λ h. p h ≡ true)) (row_at t.rows g).choices) → AllPass p order
