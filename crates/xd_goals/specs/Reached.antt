-- Goals that are reached from a goal through leaves.
use Rattle.std.specs.Prelude.{◌≡◌, ℕ, ◌<◌, ◌≤◌, ◌⊎◌, Bool, true, false, List, [], ◌++◌, map, length, slice_index_or}
use Rattle.std.specs.List.{AllByRecursion}
use Rattle.xd_rules.specs.Rules.{ChoiceTree, settles_content, settles_rest, split_on}
use Rattle.xd_rules.specs.Meaning.{AllLeaves}
use Rattle.xd_goals.specs.Rows.{GoalRow, TableView, IsRefuted, row_at}
use Rattle.xd_doc.specs.Members.{IsOneOf}
use Rattle.xd_rules.specs.Listed.{SomeOf}
use Rattle.xd_goals.specs.Kept.{IsSameButMarks}
use Rattle.xd_goals.specs.Trees.{StandsAt}
use Rattle.xd_goals.specs.declared.table.Choice.{Choice}
use Rattle.xd_goals.specs.declared.table.ChoiceNode.{ChoiceNode}
use Rattle.xd_goals.specs.declared.table.GoalId.{GoalId}
use Rattle.xd_goals.specs.declared.table.Standing.TheVariants.{Holds, Waiting}

abbrev pub is_marked : List Bool → ℕ → Bool
is_marked marks g = slice_index_or marks g false

abbrev pub marks_of : List GoalRow → List Bool
marks_of rows = map (λ (r : GoalRow). r.settled) rows

-- P holds of each goal that a leaf of the choice names
abbrev pub LeadsTo : (ℕ → Type 0) → List ChoiceNode → Choice → Type 0
LeadsTo P nodes k = (tree : ChoiceTree) → StandsAt nodes k.root tree → AllLeaves P tree

abbrev pub LeadsToMarked : List ChoiceNode → List Bool → Choice → Type 0
LeadsToMarked nodes marks k = LeadsTo (λ g. is_marked marks g ≡ true) nodes k

-- the goal is marked, and each goal that is marked holds and leads to marked ones alone
pub record IsSettled (t : TableView) (goal : ℕ) : Type 0 where
  pub marks : List Bool
  pub start : is_marked marks goal ≡ true
  pub holds : (g : ℕ) → is_marked marks g ≡ true → (row_at t.rows g).standing ≡ Holds
  pub leads : (g : ℕ) → is_marked marks g ≡ true → AllByRecursion (LeadsToMarked t.nodes marks) (row_at t.rows g).choices

-- a tree stands at the node, and its leaves name goals below n
pub record HasTreeWithin (nodes : List ChoiceNode) (n root : ℕ) : Type 0 where
  pub tree : ChoiceTree
  pub stands : StandsAt nodes root tree
  pub within : AllLeaves (λ g. g < n) tree

abbrev pub HaveTreesWithin : List ChoiceNode → ℕ → List Choice → Type 0
HaveTreesWithin nodes n choices = AllByRecursion (λ (k : Choice). HasTreeWithin nodes n k.root) choices

-- a leaf of the tree names the goal
abbrev pub HasLeaf : ℕ → ChoiceTree → Type 0
HasLeaf g (settles_content k) = k ≡ g
HasLeaf g (settles_rest k) = k ≡ g
HasLeaf g (split_on j a b) = HasLeaf g a ⊎ HasLeaf g b

-- a leaf of the tree that stands at the node names the goal
pub record IsLeafAt (nodes : List ChoiceNode) (root g : ℕ) : Type 0 where
  pub tree : ChoiceTree
  pub stands : StandsAt nodes root tree
  pub leaf : HasLeaf g tree

-- a leaf of a choice's tree names the goal
abbrev pub IsLeafOf : List ChoiceNode → List Choice → ℕ → Type 0
IsLeafOf nodes choices g = SomeOf (λ (k : Choice). IsLeafAt nodes k.root g) choices

abbrev pub HasTreeAt : List ChoiceNode → ℕ → Type 0
HasTreeAt nodes root = (tree : ChoiceTree) × StandsAt nodes root tree

-- the goal is there, and waits
pub record IsWaitingIn (rows : List GoalRow) (goal : GoalId) : Type 0 where
  pub there : goal.number < length rows
  pub waits : (row_at rows goal.number).standing ≡ Waiting

-- the goals of which P holds are reached, after those that were reached before, and no others are
pub record Reaches (P : ℕ → Type 0) (old new : List ℕ) : Type 0 where
  pub more : List ℕ
  pub grown : new ≡ old ++ more
  pub all : (g : ℕ) → P g → IsOneOf g new
  pub only : (g : ℕ) → IsOneOf g new → IsOneOf g old ⊎ P g

-- the goal is settled, or holds and leads to these alone
abbrev pub IsPassed : TableView → List ℕ → ℕ → Type 0
IsPassed t order g = ((row_at t.rows g).settled ≡ true) ⊎ (((row_at t.rows g).standing ≡ Holds) × AllByRecursion (LeadsTo (λ n. IsOneOf n order) t.nodes) (row_at t.rows g).choices)

-- the start is among these goals, and each of them is settled, or holds and leads to these alone
pub record AreClosed (t : TableView) (start : ℕ) (order : List ℕ) : Type 0 where
  pub started : IsOneOf start order
  pub passed : (g : ℕ) → IsOneOf g order → IsPassed t order g

-- what a walk finds: goals that are there, those of them that wait, and where none does, all that
-- it leads to
pub record IsWalk (t : TableView) (start : ℕ) (order : List ℕ) (waiting : List GoalId) : Type 0 where
  pub there : AllByRecursion (λ (n : ℕ). n < length t.rows) order
  pub waits : AllByRecursion (IsWaitingIn t.rows) waiting
  pub closed : waiting ≡ [] → AreClosed t start order

-- these goals, and no others, were marked as settled
pub record MarksThese (order : List ℕ) (old new : List GoalRow) : Type 0 where
  pub rows : IsSameButMarks old new
  pub marked : (g : ℕ) → IsOneOf g order → (row_at new g).settled ≡ true
  pub kept : (g : ℕ) → (row_at old g).settled ≡ true → (row_at new g).settled ≡ true
  pub only : (g : ℕ) → (row_at new g).settled ≡ true → ((row_at old g).settled ≡ true) ⊎ IsOneOf g order

-- the walk so far: of the goals that were reached, in order, the first are settled, or hold and
-- lead to these alone, unless some wait
pub record IsWalked (t : TableView) (start : ℕ) (waiting : List GoalId) (order : List ℕ) (next : ℕ) : Type 0 where
  pub started : IsOneOf start order
  pub within : next ≤ length order
  pub there : (g : ℕ) → IsOneOf g order → g < length t.rows
  pub open_ : (g : ℕ) → IsOneOf g order → ¬ (IsRefuted t.rows g)
  pub waits : AllByRecursion (IsWaitingIn t.rows) waiting
  pub passed : waiting ≡ [] → (k : ℕ) → k < next → IsPassed t order (slice_index_or order k 0)
