-- A table stands on an automaton and a store: what its goals say of them.
use Rattle.std.specs.Prelude.{◌≡◌, ℕ, ◌<◌, ◌≤◌, ◌⊎◌, true, List, [], map, length, Some, slice_get}
use Rattle.std.specs.List.{list_any}
use Rattle.xd_doc.specs.Document.{Document}
use Rattle.xd_doc.specs.Stored.{document_at}
use Rattle.xd_doc.specs.StoredSeq.{BelongsTo}
use Rattle.xd_doc.specs.declared.store.Seq.{Seq}
use Rattle.xd_auto.specs.declared.auto.State.{State}
use Rattle.xd_auto.specs.Automaton.{Automaton}
use Rattle.xd_rules.specs.declared.atom.Atom.{Atom}
use Rattle.xd_rules.specs.Heads.{Head, matches}
use Rattle.xd_rules.specs.Meaning.{is_text_atom, AllLeaves, right_heads, Separates}
use Rattle.xd_rules.specs.Rules.{Claim, ChoiceTree, numbered, wanted}
use Rattle.xd_state_heads.specs.Moves.{heads_of, is_last_in, Accepts}
use Rattle.xd_goals.specs.Rows.{GoalRow, TableView, row_at, claim_of, choice_key, goal_case, IsRefuted, RowsBelow}
use Rattle.xd_goals.specs.Trees.{StandsAt, IsTreeBySort}
use Rattle.xd_state_heads.specs.Wants.{matching_sides}
use Rattle.xd_goals.specs.declared.table.Choice.{Choice}
use Rattle.xd_goals.specs.declared.table.GoalCase.{GoalCase}
use Rattle.xd_goals.specs.declared.table.Standing.TheVariants.{Holds, Refuted}
use Rattle.xd_goals.specs.declared.grow.Task.{Task}
use Rattle.xd_state_heads.specs.declared.heads.Side.{Side}

-- the document of the store is one that the goal's left accepts and none of its rights does
pub record IsSeparatedBy (a : Automaton) (ds : List Document) (c : Claim State) (seq : Seq) : Type 0 where
  pub belongs : BelongsTo ds seq
  pub separates : Separates (Accepts a) c (document_at ds seq)

-- each refuted goal has such a document
abbrev pub AreSeparated : Automaton → List Document → List GoalRow → Type 0
AreSeparated a ds rows = (i : ℕ) (seq : Seq) → (row_at rows i).standing ≡ Refuted seq → IsSeparatedBy a ds (claim_of (row_at rows i)) seq

-- the right heads of a claim that match an atom
abbrev pub claim_sides : Automaton → Claim State → Atom → List Side
claim_sides a c atom = matching_sides atom 1 (right_heads (heads_of a) c)

abbrev pub task_for : Automaton → GoalCase → Head State → Task
task_for a owner h = record { owner = owner; content = h.content; rest = h.rest; states = length a }

-- the tree is one for this head at this atom
abbrev pub IsCaseTree : Automaton → List GoalRow → GoalCase → Claim State → Head State → Atom → ChoiceTree → Type 0
IsCaseTree a rows owner c h atom tree = IsTreeBySort (is_text_atom atom) rows (task_for a owner h) (claim_sides a c atom) tree

-- a choice of a goal, for this case of it: a head of its left at an atom of it, with a tree
pub record IsChoiceOf (a : Automaton) (t : TableView) (owner : GoalCase) (c : Claim State) (k : Choice) : Type 0 where
  pub head : Head State
  pub found : numbered (heads_of a c.left) k.head ≡ Some head
  pub matched : matches head.kind k.atom ≡ true
  pub tree : ChoiceTree
  pub stands : StandsAt t.nodes k.root tree
  pub kind : IsCaseTree a t.rows owner c head k.atom tree

-- no leaf names a refuted goal
abbrev pub IsOpen : TableView → Choice → Type 0
IsOpen t k = (tree : ChoiceTree) → StandsAt t.nodes k.root tree → AllLeaves (λ g. ¬ (IsRefuted t.rows g)) tree

-- a goal that has its choices: the empty document is covered, and there is one tree for each head
-- and atom, in order
pub record IsBegun (a : Automaton) (c : Claim State) (choices : List Choice) : Type 0 where
  pub last : is_last_in a c.left ≡ true → list_any (is_last_in a) c.rights ≡ true
  pub complete : map choice_key choices ≡ wanted (heads_of a c.left) (right_heads (heads_of a) c)

-- a goal that was worked on: it holds, or has choices from when it held
abbrev pub HasChoices : GoalRow → Type 0
HasChoices row = (row.standing ≡ Holds) ⊎ (¬ (row.choices ≡ []))

-- What the table's goals say of the automaton, documents aside. A goal that waits again keeps its
-- choices, so that work on it looks at those alone that a refuted goal has broken; so they are
-- asked to be right, too.
pub record StandsOnAutomaton (a : Automaton) (t : TableView) : Type 0 where
  pub states : RowsBelow (length a) t.rows
  pub begun : (i : ℕ) → HasChoices (row_at t.rows i) → IsBegun a (claim_of (row_at t.rows i)) (row_at t.rows i).choices
  pub choices : (i place : ℕ) (k : Choice) → slice_get (row_at t.rows i).choices place ≡ Some k → IsChoiceOf a t (goal_case i place) (claim_of (row_at t.rows i)) k

-- the table stands on the automaton and the store
pub record StandsOn (a : Automaton) (ds : List Document) (t : TableView) : Type 0 where
  pub facts : StandsOnAutomaton a t
  pub refuted : AreSeparated a ds t.rows

-- goals stay, with their states, and those that are refuted stay so
pub record KeepsGoals (old new : TableView) : Type 0 where
  pub longer : length old.rows ≤ length new.rows
  pub claims : (i : ℕ) → i < length old.rows → claim_of (row_at new.rows i) ≡ claim_of (row_at old.rows i)
  pub refuted : (i : ℕ) (seq : Seq) → (row_at old.rows i).standing ≡ Refuted seq → (row_at new.rows i).standing ≡ Refuted seq
