-- Goals of a table as goals between types.
use Rattle.std.specs.Prelude.{◌≡◌, ℕ, List, map, Option, Some}
use Rattle.std.specs.List.{AllByRecursion, AllZip}
use Rattle.xd_doc.specs.Classes.{LabelClass}
use Rattle.xd_syntax.specs.Tree.{Tree, Definitions}
use Rattle.xd_auto.specs.declared.auto.State.{State}
use Rattle.xd_auto.specs.Automaton.{Automaton}
use Rattle.xd_rules.specs.Heads.{Head, element_in}
use Rattle.xd_meaning.specs.Heads.{heads}
use Rattle.xd_rules.specs.Rules.{ChoiceTree, settles_content, settles_rest, split_on, Case, numbered, wanted, head_atom}
use Rattle.xd_meaning.specs.Consistent.{Goal, right_heads, EmptyRule}
use Rattle.xd_rules.specs.Listed.{SomeOf}
use Rattle.xd_state_heads.specs.Moves.{heads_of}
use Rattle.xd_goals.specs.Rows.{GoalRow, claim_of}
use Rattle.xd_goals.specs.Trees.{StandsAt}
use Rattle.xd_goals.specs.declared.table.Choice.{Choice}
use Rattle.xd_goals.specs.declared.table.ChoiceNode.{ChoiceNode}
use Rattle.xd_rules.specs.Meaning.{right_heads as claim_heads}

-- the tree with other numbers of right heads and of goals
abbrev pub written_tree : (ℕ → ℕ) → (ℕ → ℕ) → ChoiceTree → ChoiceTree
written_tree place number (settles_content g) = settles_content (number g)
written_tree place number (settles_rest g) = settles_rest (number g)
written_tree place number (split_on j a b) = split_on (place j) (written_tree place number a) (written_tree place number b)

-- the states have these types
abbrev pub AreTypes : (State → Option Tree) → List State → List Tree → Type 0
AreTypes C ss Ts = AllZip (λ s T. C s ≡ Some T) ss Ts

-- a head of a state is one of a type: an element's content counts, and what follows
pub record IsSameHead (C : State → Option Tree) (h : Head State) (k : Head Tree) : Type 0 where
  pub kind : k.kind ≡ h.kind
  pub content : (c : LabelClass) → h.kind ≡ element_in c → C h.content ≡ Some k.content
  pub rest : C h.rest ≡ Some k.rest

-- the number is that of this head
pub record IsAt (C : State → Option Tree) (ks : List (Head Tree)) (n : ℕ) (h : Head State) : Type 0 where
  pub head : Head Tree
  pub stands : numbered ks n ≡ Some head
  pub same : IsSameHead C h head

-- each head has a new number, and no two the same
pub record Renumbers (C : State → Option Tree) (place : ℕ → ℕ) (hs : List (Head State)) (ks : List (Head Tree)) : Type 0 where
  pub same : (j : ℕ) (h : Head State) → numbered hs j ≡ Some h → IsAt C ks (place j) h
  pub once : (i j : ℕ) (g h : Head State) → numbered hs i ≡ Some g → numbered hs j ≡ Some h → place i ≡ place j → i ≡ j

-- a choice of a row as a case: its head and its atom are the same, its tree is written
pub record IsCaseFor (C : State → Option Tree) (nodes : List ChoiceNode) (place number : ℕ → ℕ) (hs : List (Head State)) (ks : List (Head Tree)) (k : Choice) (c : Case) : Type 0 where
  pub of_head : Head State
  pub found : numbered hs k.head ≡ Some of_head
  pub head : IsAt C ks c.head of_head
  pub atom : c.atom ≡ k.atom
  pub tree : ChoiceTree
  pub stands : StandsAt nodes k.root tree
  pub choice : c.choice ≡ written_tree place number tree

-- a row as a goal between types: its left and its rights are those of the states, and its cases are
-- those of its choices
pub record IsWritten (E : Definitions) (a : Automaton) (C : State → Option Tree) (nodes : List ChoiceNode) (number : ℕ → ℕ) (row : GoalRow) (g : Goal) : Type 0 where
  pub left : C row.left ≡ Some g.left
  pub rights : AreTypes C row.rights g.rights
  pub empty_right : EmptyRule E g g.empty_right
  pub cases : map head_atom g.cases ≡ wanted (heads E g.left) (right_heads E g)
  pub place : ℕ → ℕ
  pub renumbers : Renumbers C place (claim_heads (heads_of a) (claim_of row)) (right_heads E g)
  pub each : AllByRecursion (λ c. SomeOf (λ k. IsCaseFor C nodes place number (heads_of a row.left) (heads E g.left) k c) row.choices) g.cases
