-- What contracts see of a table: its goals, the nodes of its choice trees, and the links of its
-- lists of dependents.
use Rattle.std.specs.Prelude.{◌≡◌, ℕ, ◌<◌, Bool, false, List, [], ◌∷◌, map, length, Option, Some, None, slice_get, slice_index_or, option_map}
use Rattle.xd_doc.specs.declared.store.Seq.{Seq}
use Rattle.xd_auto.specs.declared.auto.State.{State}
use Rattle.xd_rules.specs.Rules.{Claim, HeadAtom}
use Rattle.xd_state_heads.specs.Moves.{AreBelow}
use Rattle.xd_goals.specs.declared.table.Choice.{Choice}
use Rattle.xd_goals.specs.declared.table.ChoiceNode.{ChoiceNode}
use Rattle.xd_goals.specs.declared.table.ChoiceNode.TheVariants.{Split, Content, Rest}
use Rattle.xd_goals.specs.declared.table.GoalCase.{GoalCase}
use Rattle.xd_goals.specs.declared.table.Standing.{Standing}
use Rattle.xd_goals.specs.declared.table.Standing.TheVariants.{Refuted, Waiting}
use Rattle.xd_goals.specs.declared.table.Link.{Link}

-- a goal, its choice trees with a flag for each, where its list of dependents begins, and whether
-- it is marked as settled
pub record GoalRow : Type 0 where
  pub left : State
  pub rights : List State
  pub standing : Standing
  pub choices : List Choice
  pub broken : List Bool
  pub dependents : Option ℕ
  pub settled : Bool

pub record TableView : Type 0 where
  pub rows : List GoalRow
  pub nodes : List ChoiceNode
  pub links : List Link

abbrev pub no_view : TableView
no_view = record { rows = []; nodes = []; links = [] }

-- a goal that waits, and has nothing yet
abbrev pub new_row : State → List State → GoalRow
new_row left rights = record { left = left; rights = rights; standing = Waiting; choices = []; broken = []; dependents = None; settled = false }

abbrev pub no_row : GoalRow
no_row = new_row (record { number = 0 }) []

abbrev pub row_at : List GoalRow → ℕ → GoalRow
row_at rows i = slice_index_or rows i no_row

abbrev pub claim_of : GoalRow → Claim State
claim_of row = record { left = row.left; rights = row.rights }

-- the claim of the goal of this number
abbrev pub claim_at : List GoalRow → ℕ → Option (Claim State)
claim_at rows g = option_map claim_of (slice_get rows g)

abbrev pub IsRefuted : List GoalRow → ℕ → Type 0
IsRefuted rows g = (seq : Seq) × ((row_at rows g).standing ≡ Refuted seq)

-- no flag says that a leaf of this case's tree may name a refuted goal
abbrev pub IsUnbroken : GoalRow → ℕ → Type 0
IsUnbroken row place = slice_get row.broken place ≡ Some false

-- the head and the atom of a choice tree
abbrev pub choice_key : Choice → HeadAtom
choice_key k = (k.head, k.atom)

-- the goal's number, and those of its rights
abbrev pub state_numbers : List State → List ℕ
state_numbers states = map (λ (s : State). s.number) states

abbrev pub claim_key : Claim State → List ℕ
claim_key c = c.left.number ∷ state_numbers c.rights

-- the case of a goal, by the goal's number and the case's place
abbrev pub goal_case : ℕ → ℕ → GoalCase
goal_case goal place = record { goal = record { number = goal }; place = place }

-- from this link on, the list leads to the case
pub data Leads (links : List Link) (owner : GoalCase) : Option ℕ → Type 0 where
  here : (k : ℕ) (l : Link) → slice_get links k ≡ Some l → l.case ≡ owner → Leads links owner (Some k)
  behind : (k : ℕ) (l : Link) → slice_get links k ≡ Some l → Leads links owner l.next → Leads links owner (Some k)

-- the case is in the list of dependents of the goal
abbrev pub IsListed : TableView → ℕ → GoalCase → Type 0
IsListed t on owner = Leads t.links owner (row_at t.rows on).dependents

-- a node of a choice tree: a split leads to older nodes, and a leaf names one of so many goals
abbrev pub NodeStands : ℕ → ℕ → ChoiceNode → Type 0
NodeStands goals n (Split right content rest) = (content < n) × (rest < n)
NodeStands goals n (Content goal) = goal.number < goals
NodeStands goals n (Rest goal) = goal.number < goals

-- the choice begins at a node that is there
abbrev pub HasRoot : List ChoiceNode → Choice → Type 0
HasRoot nodes k = k.root < length nodes

-- the goal's states belong to an automaton with so many states
pub record IsRowBelow (n : ℕ) (row : GoalRow) : Type 0 where
  pub left : row.left.number < n
  pub rights : AreBelow n row.rights

pub record RowsBelow (n : ℕ) (rows : List GoalRow) : Type 0 where
  pub each : (i : ℕ) → i < length rows → IsRowBelow n (row_at rows i)
