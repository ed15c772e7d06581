-- What a table keeps about itself, and how it grows.
use Rattle.std.specs.Prelude.{◌≡◌, ℕ, ◌<◌, ◌≤◌, ◌⊎◌, Bool, true, false, List, [], length, Option, Some, slice_get, slice_set}
use Rattle.std.specs.HashMap.{HashMap}
use Rattle.xd_doc.specs.StoredSeq.{IsBelow}
use Rattle.xd_auto.specs.declared.auto.State.{State}
use Rattle.xd_auto.specs.Keys.{found_at}
use Rattle.xd_state_heads.specs.Moves.{IsInOrder}
use Rattle.xd_goals.specs.Rows.{GoalRow, TableView, row_at, claim_of, claim_key, IsListed, IsUnbroken, Leads, NodeStands, RowsBelow}
use Rattle.xd_goals.specs.declared.table.Choice.{Choice}
use Rattle.xd_goals.specs.declared.table.ChoiceNode.{ChoiceNode}
use Rattle.xd_doc.specs.declared.store.Seq.{Seq}
use Rattle.xd_goals.specs.declared.table.Standing.{Standing}
use Rattle.xd_goals.specs.declared.table.Standing.TheVariants.{Holds, Refuted, Waiting}
use Rattle.xd_goals.specs.declared.table.Link.{Link}
use Rattle.xd_goals.specs.declared.table.GoalCase.{GoalCase}
use Rattle.xd_goals.specs.declared.goals.Goals.{Goals}

abbrev pub view_of : Goals → TableView
view_of g = record { rows = g.rows.items; nodes = g.nodes.items; links = g.links.items }

-- the map has each goal's number under its key, and nothing else
pub record IsIndexed {S : Type 0} (found : HashMap (List ℕ) ℕ S) (rows : List GoalRow) : Type 0 where
  pub all : (i : ℕ) → i < length rows → found_at found (claim_key (claim_of (row_at rows i))) ≡ Some i
  pub only : (key : List ℕ) (i : ℕ) → found_at found key ≡ Some i → (i < length rows) × (claim_key (claim_of (row_at rows i)) ≡ key)

-- lists of dependents lead to links that are there, each to older ones, and to goals that are there
pub record AreLinked (rows : List GoalRow) (links : List Link) : Type 0 where
  pub first : (i : ℕ) → IsBelow (length links) (row_at rows i).dependents
  pub next : (k : ℕ) (l : Link) → slice_get links k ≡ Some l → IsBelow k l.next
  pub goals : (k : ℕ) (l : Link) → slice_get links k ≡ Some l → l.case.goal.number < length rows

-- nodes of choice trees lead to older ones, and their leaves to goals that are there
pub record AreNodes (rows : List GoalRow) (nodes : List ChoiceNode) : Type 0 where
  pub each : (n : ℕ) (node : ChoiceNode) → slice_get nodes n ≡ Some node → NodeStands (length rows) n node

pub record IsWhole (g : Goals) : Type 0 where
  pub index : IsIndexed g.found g.rows.items
  pub links : AreLinked g.rows.items g.links.items
  pub nodes : AreNodes g.rows.items g.nodes.items

-- all this, and the goals' states belong to an automaton with so many states
pub record IsConsistent (n : ℕ) (g : Goals) : Type 0 where
  pub states : RowsBelow n g.rows.items
  pub index : IsIndexed g.found g.rows.items
  pub links : AreLinked g.rows.items g.links.items
  pub nodes : AreNodes g.rows.items g.nodes.items

-- the same but for the list of dependents
pub record IsSameGoal (old new : GoalRow) : Type 0 where
  pub left : new.left ≡ old.left
  pub rights : new.rights ≡ old.rights
  pub standing : new.standing ≡ old.standing
  pub choices : new.choices ≡ old.choices
  pub broken : new.broken ≡ old.broken
  pub settled : new.settled ≡ old.settled

-- nothing is known of it yet
pub record IsNew (row : GoalRow) : Type 0 where
  pub standing : row.standing ≡ Waiting
  pub choices : row.choices ≡ []
  pub broken : row.broken ≡ []
  pub settled : row.settled ≡ false

-- goals with such rights, nodes and dependents were added, and nothing else has changed
pub record GrowsBy (Allows : List State → Type 0) (old new : TableView) : Type 0 where
  pub longer : length old.rows ≤ length new.rows
  pub kept : (i : ℕ) → i < length old.rows → IsSameGoal (row_at old.rows i) (row_at new.rows i)
  pub added : (i : ℕ) → length old.rows ≤ i → IsNew (row_at new.rows i)
  pub allowed : (i : ℕ) → length old.rows ≤ i → i < length new.rows → Allows (row_at new.rows i).rights
  pub nodes : (n : ℕ) (node : ChoiceNode) → slice_get old.nodes n ≡ Some node → slice_get new.nodes n ≡ Some node
  pub listed : (on : ℕ) (owner : GoalCase) → IsListed old on owner → IsListed new on owner

-- the rights are these
abbrev pub AreThese : List State → List State → Type 0
AreThese rights added = added ≡ rights

-- the goals that were added have each right once, in order
abbrev pub Grows : TableView → TableView → Type 0
Grows old new = GrowsBy IsInOrder old new

-- the list's first link stands for the case
pub record BeginsWith (links : List Link) (first : Option ℕ) (owner : GoalCase) : Type 0 where
  pub place : ℕ
  pub link : Link
  pub is_first : first ≡ Some place
  pub found : slice_get links place ≡ Some link
  pub is_case : link.case ≡ owner

abbrev pub with_standing : Standing → GoalRow → GoalRow
with_standing standing row = record row { standing = standing }

-- the row with the flag of a case set, where the case is there
abbrev pub with_flag : ℕ → GoalRow → GoalRow
with_flag place row = record row { broken = slice_set row.broken place true }

-- the row with another choice at a place, whose flag isn't set
abbrev pub with_choice : ℕ → Choice → GoalRow → GoalRow
with_choice place k row = record row { choices = slice_set row.choices place k; broken = slice_set row.broken place false }

-- the same but for how far it is settled, and for flags that were set
pub record IsSameClaim (old new : GoalRow) : Type 0 where
  pub left : new.left ≡ old.left
  pub rights : new.rights ≡ old.rights
  pub choices : new.choices ≡ old.choices
  pub dependents : new.dependents ≡ old.dependents
  pub flags : length new.broken ≡ length old.broken
  pub unbroken : (place : ℕ) → IsUnbroken new place → IsUnbroken old place
  pub settled : new.settled ≡ old.settled

-- it stands as it did, or held, wasn't settled, and waits
abbrev pub IsWokenRow : GoalRow → GoalRow → Type 0
IsWokenRow old new = (new.standing ≡ old.standing) ⊎ ((old.standing ≡ Holds) × (new.standing ≡ Waiting) × (old.settled ≡ false))

-- the goal doesn't hold, and work on it looks at the case
pub record IsInDoubt (row : GoalRow) (place : ℕ) : Type 0 where
  pub settled : ¬ (row.standing ≡ Holds)
  pub broken : ¬ (IsUnbroken row place)

-- the goal is settled, or the case is in doubt
abbrev pub IsSeenTo : GoalRow → ℕ → Type 0
IsSeenTo row place = (row.settled ≡ true) ⊎ IsInDoubt row place

-- goals that held wait; of these cases, each is in doubt, unless its goal is settled
pub record IsWoken (These : GoalCase → Type 0) (old new : List GoalRow) : Type 0 where
  pub count : length new ≡ length old
  pub same : (i : ℕ) → IsSameClaim (row_at old i) (row_at new i)
  pub others : (i : ℕ) → IsWokenRow (row_at old i) (row_at new i)
  pub these : (owner : GoalCase) → These owner → IsSeenTo (row_at new owner.goal.number) owner.place

-- the goal is refuted by the document, and each case that depends on it is in doubt, unless its
-- goal is settled
pub record Refutes (links : List Link) (goal : ℕ) (seq : Seq) (old new : List GoalRow) : Type 0 where
  pub count : length new ≡ length old
  pub same : (i : ℕ) → IsSameClaim (row_at old i) (row_at new i)
  pub goal_is : (row_at new goal).standing ≡ Refuted seq
  pub others : (i : ℕ) → ¬ (i ≡ goal) → IsWokenRow (row_at old i) (row_at new i)
  pub dependents : (owner : GoalCase) → Leads links owner (row_at old goal).dependents → IsSeenTo (row_at new owner.goal.number) owner.place

abbrev pub with_mark : Bool → GoalRow → GoalRow
with_mark settled row = record row { settled = settled }

-- the same goals, but for which are marked as settled
pub record IsSameButMarks (old new : List GoalRow) : Type 0 where
  pub count : length new ≡ length old
  pub same : (i : ℕ) → row_at new i ≡ with_mark (row_at new i).settled (row_at old i)

-- at most the goals' marks have changed
pub record IsMarking (old new : Goals) : Type 0 where
  pub rows : IsSameButMarks old.rows.items new.rows.items
  pub nodes : new.nodes.items ≡ old.nodes.items
  pub links : new.links.items ≡ old.links.items
  pub found : new.found ≡ old.found
