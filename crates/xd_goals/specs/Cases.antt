-- The cases of a goal as work on it sees them.
use Rattle.std.specs.Prelude.{◌≡◌, ℕ, ◌≤◌, true, false, List, length, map, Option, None, Some, slice_get}
use Rattle.std.specs.List.{list_any}
use Rattle.xd_doc.specs.Document.{Document, text, element}
use Rattle.xd_doc.specs.Classes.{NameClass, class_has}
use Rattle.xd_doc.specs.declared.store.Seq.{Seq}
use Rattle.xd_auto.specs.declared.auto.State.{State}
use Rattle.xd_auto.specs.Automaton.{Automaton}
use Rattle.xd_rules.specs.declared.atom.Atom.{Atom}
use Rattle.xd_rules.specs.declared.atom.Atom.TheVariants.{Label, OtherLabel, Text, OtherText}
use Rattle.xd_doc.specs.Members.{IsOneOf}
use Rattle.xd_rules.specs.Heads.{Head, matches}
use Rattle.xd_rules.specs.Meaning.{is_text_atom, right_heads}
use Rattle.xd_rules.specs.Rules.{HeadAtom, Claim, wanted}
use Rattle.xd_state_heads.specs.Moves.{heads_of, is_last_in}
use Rattle.xd_goals.specs.Rows.{TableView, choice_key, claim_of, goal_case, row_at, IsUnbroken}
use Rattle.xd_goals.specs.Measure.{AreMadeFrom, potential}
use Rattle.xd_goals.specs.Trees.{IsFailureBySort}
use Rattle.xd_goals.specs.Standing.{IsOpen, KeepsGoals, claim_sides, task_for}
use Rattle.xd_goals.specs.Facts.{ChoiceStands}
use Rattle.xd_goals.specs.declared.grow.Grown.{Grown}
use Rattle.xd_goals.specs.declared.grow.Grown.TheVariants.{Stands, Fails}
use Rattle.xd_goals.specs.declared.table.Choice.{Choice}
use Rattle.xd_goals.specs.declared.table.GoalCase.{GoalCase}
use Rattle.xd_goals.specs.declared.work.CaseEnd.{CaseEnd}
use Rattle.xd_goals.specs.declared.work.CaseEnd.TheVariants.{Chosen, Failed}
use Rattle.xd_goals.specs.declared.work.Failure.{Failure}
use Rattle.xd_goals.specs.declared.work.Settled.{Settled}
use Rattle.xd_goals.specs.declared.work.Settled.TheVariants.{Holds, Separates}

-- the document begins as the atom says, other labels and texts being those of two classes
abbrev pub BeginsAs : NameClass → NameClass → Atom → Document → Document → Document → Type 0
BeginsAs labels texts (Label l) inside behind d = d ≡ element l inside behind
BeginsAs labels texts OtherLabel inside behind d = (l : List ℕ) × (class_has labels l ≡ true) × (d ≡ element l inside behind)
BeginsAs labels texts (Text t) inside behind d = d ≡ text t behind
BeginsAs labels texts OtherText inside behind d = (t : List ℕ) × (class_has texts t ≡ true) × (d ≡ text t behind)

-- an atom of a head of the left, where a content and a rest are those of a document that no right
-- head takes
pub record FailsAt (a : Automaton) (ds : List Document) (t : TableView) (c : Claim State) (atom : Atom) (inside behind : Seq) : Type 0 where
  pub owner : GoalCase
  pub of_head : Head State
  pub among : IsOneOf of_head (heads_of a c.left)
  pub matched : matches of_head.kind atom ≡ true
  pub fails : IsFailureBySort (is_text_atom atom) a ds t.rows (task_for a owner of_head) (claim_sides a c atom) inside behind

-- the empty document is one of the left and of no right
pub record IsUncovered (a : Automaton) (left : State) (rights : List State) : Type 0 where
  pub left_last : is_last_in a left ≡ true
  pub rights_not : list_any (is_last_in a) rights ≡ false

-- a choice that stands, with an open tree
pub record IsOpenChoice (a : Automaton) (t : TableView) (owner : GoalCase) (c : Claim State) (k : Choice) : Type 0 where
  pub stands : ChoiceStands a t owner c k
  pub opens : IsOpen t k

-- a case was settled: by a tree, or by documents
abbrev pub IsCaseGrown : Automaton → List Document → TableView → GoalCase → Claim State → ℕ → Atom → Grown → Type 0
IsCaseGrown a ds t owner c head atom (Stands root) = IsOpenChoice a t owner c (record { head = head; atom = atom; root = root })
IsCaseGrown a ds t owner c head atom (Fails inside behind) = FailsAt a ds t c atom inside behind

-- there are open trees for all cases of a goal
pub record AreSettled (a : Automaton) (t : TableView) (goal : ℕ) (c : Claim State) (choices : List Choice) : Type 0 where
  pub complete : map choice_key choices ≡ wanted (heads_of a c.left) (right_heads (heads_of a) c)
  pub open_choices : (place : ℕ) (k : Choice) → slice_get choices place ≡ Some k → IsOpenChoice a t (goal_case goal place) c k

-- what a case comes to by what was grown for it
abbrev pub case_end_of : ℕ → Atom → Grown → CaseEnd
case_end_of head atom (Stands root) = Chosen (record { head = head; atom = atom; root = root })
case_end_of head atom (Fails inside behind) = Failed (record { atom = atom; inside = inside; behind = behind })

abbrev pub IsSettling : Automaton → List Document → TableView → ℕ → Claim State → Settled → Type 0
IsSettling a ds t goal c (Holds made) = AreSettled a t goal c made.items
IsSettling a ds t goal c (Separates f) = FailsAt a ds t c f.atom f.inside f.behind

-- cases of a goal were repaired, and perhaps goals were added: it waits as it did, and no case
-- became doubtful
pub record IsMending (goal : ℕ) (old new : TableView) : Type 0 where
  pub kept : KeepsGoals old new
  pub made : AreMadeFrom (length old.rows) new.rows
  pub level : (n : ℕ) → potential n new.rows ≤ potential n old.rows
  pub standing : (row_at new.rows goal).standing ≡ (row_at old.rows goal).standing
  pub flags : length (row_at new.rows goal).broken ≡ length (row_at old.rows goal).broken
  pub unbroken : (place : ℕ) → IsUnbroken (row_at old.rows goal) place → IsUnbroken (row_at new.rows goal) place

-- a case was repaired, or fails
abbrev pub IsMended : Automaton → List Document → TableView → GoalCase → Option Failure → Type 0
IsMended a ds t owner None = IsUnbroken (row_at t.rows owner.goal.number) owner.place
IsMended a ds t owner (Some f) = FailsAt a ds t (claim_of (row_at t.rows owner.goal.number)) f.atom f.inside f.behind

-- open trees for the first cases
pub record AreBegun (a : Automaton) (t : TableView) (goal : ℕ) (c : Claim State) (keys : List HeadAtom) (choices : List Choice) : Type 0 where
  pub keys_are : map choice_key choices ≡ keys
  pub open_choices : (place : ℕ) (k : Choice) → slice_get choices place ≡ Some k → IsOpenChoice a t (goal_case goal place) c k
