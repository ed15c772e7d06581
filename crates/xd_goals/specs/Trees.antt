-- How the choice trees of a table are made.
use Rattle.std.specs.Prelude.{◌≡◌, ℕ, ◌<◌, Bool, true, false, ◌&&◌, List, [], ◌∷◌, Some, slice_get}
use Rattle.xd_doc.specs.Document.{Document}
use Rattle.xd_doc.specs.Stored.{document_at}
use Rattle.xd_doc.specs.StoredSeq.{BelongsTo}
use Rattle.xd_doc.specs.declared.store.Seq.{Seq}
use Rattle.xd_auto.specs.declared.auto.State.{State}
use Rattle.xd_auto.specs.Automaton.{Automaton, accepts}
use Rattle.xd_doc.specs.Members.{IsOneOf}
use Rattle.xd_rules.specs.Rules.{Claim, ChoiceTree, settles_content, settles_rest, split_on}
use Rattle.xd_rules.specs.Meaning.{AllLeaves}
use Rattle.std.specs.List.{AllByRecursion}
use Rattle.xd_state_heads.specs.Moves.{AreBelow, IsInOrder, claim_with, with_state}
use Rattle.xd_goals.specs.Rows.{GoalRow, TableView, row_at, claim_at, IsRefuted, IsListed}
use Rattle.xd_goals.specs.declared.table.ChoiceNode.{ChoiceNode}
use Rattle.xd_goals.specs.declared.table.GoalCase.{GoalCase}
use Rattle.xd_goals.specs.declared.table.ChoiceNode.TheVariants.{Split, Content, Rest}
use Rattle.xd_goals.specs.declared.table.Standing.TheVariants.{Refuted}
use Rattle.xd_state_heads.specs.declared.heads.Side.{Side}
use Rattle.xd_goals.specs.declared.grow.Task.{Task}
use Rattle.xd_goals.specs.declared.grow.Grown.{Grown}
use Rattle.xd_goals.specs.declared.grow.Grown.TheVariants.{Stands, Fails}
use Rattle.xd_goals.specs.declared.grow.Growth.{Growth}
use Rattle.xd_goals.specs.declared.grow.Growth.TheVariants.{Ends, Splits}

-- the tree stands at this node, and its parts at older ones
abbrev pub StandsAt : List ChoiceNode → ℕ → ChoiceTree → Type 0
StandsAt nodes n (settles_content g) = slice_get nodes n ≡ Some (Content (record { number = g }))
StandsAt nodes n (settles_rest g) = slice_get nodes n ≡ Some (Rest (record { number = g }))
StandsAt nodes n (split_on j a b) = (x : ℕ) × (y : ℕ) × (slice_get nodes n ≡ Some (Split j x y)) × (x < n) × (y < n) × StandsAt nodes x a × StandsAt nodes y b

-- a right head, of which nothing is on the two sides
pub record IsFree (sides : List Side) (contents rests : List State) (side : Side) : Type 0 where
  pub place : ℕ
  pub found : slice_get sides place ≡ Some side
  pub content_free : ¬ (IsOneOf side.content contents)
  pub rest_free : ¬ (IsOneOf side.rest rests)

-- a tree over a content and a rest, on a path that put right heads on the two sides: it splits on
-- one that is on neither, and each leaf's rights are its side
abbrev pub IsGrown : List GoalRow → Task → List Side → ChoiceTree → List State → List State → Type 0
IsGrown rows task sides (settles_content g) contents rests = claim_at rows g ≡ Some (claim_with task.content contents)
IsGrown rows task sides (settles_rest g) contents rests = claim_at rows g ≡ Some (claim_with task.rest rests)
IsGrown rows task sides (split_on j a b) contents rests =
    (side : Side) × (j ≡ side.number) × IsFree sides contents rests side
    × IsGrown rows task sides a (with_state side.content contents) rests
    × IsGrown rows task sides b contents (with_state side.rest rests)

-- the rests of right heads, in front of which these states stood
abbrev pub gathered : List State → List Side → List State
gathered states [] = states
gathered states (s ∷ ss) = gathered (with_state s.rest states) ss

-- the tree of a text: one leaf
abbrev pub IsTextTree : List GoalRow → Task → List Side → ChoiceTree → Type 0
IsTextTree rows task sides (settles_content g) = ⊥
IsTextTree rows task sides (settles_rest g) = claim_at rows g ≡ Some (claim_with task.rest (gathered [] sides))
IsTextTree rows task sides (split_on j a b) = ⊥

abbrev pub IsTreeBySort : Bool → List GoalRow → Task → List Side → ChoiceTree → Type 0
IsTreeBySort true rows task sides tree = IsTextTree rows task sides tree
IsTreeBySort false rows task sides tree = IsGrown rows task sides tree [] []

-- a tree of a case that stands in the table, each of whose leaves names a goal with the case among
-- its dependents
pub record HasTree (t : TableView) (Kind : ChoiceTree → Type 0) (owner : GoalCase) (root : ℕ) : Type 0 where
  pub tree : ChoiceTree
  pub stands : StandsAt t.nodes root tree
  pub kind : Kind tree
  pub listed : AllLeaves (λ g. IsListed t g owner) tree

-- no leaf names a refuted goal
pub record HasOpenTree (t : TableView) (Kind : ChoiceTree → Type 0) (owner : GoalCase) (root : ℕ) : Type 0 where
  pub has : HasTree t Kind owner root
  pub open_ : AllLeaves (λ g. ¬ (IsRefuted t.rows g)) has.tree

-- a goal with this claim is refuted by the document
pub record IsRefutedBy (rows : List GoalRow) (c : Claim State) (seq : Seq) : Type 0 where
  pub goal : ℕ
  pub claim : claim_at rows goal ≡ Some c
  pub refuted : (row_at rows goal).standing ≡ Refuted seq

-- the right head takes an element with this content and this rest
abbrev pub takes : Automaton → List Document → Seq → Seq → Side → Bool
takes a ds inside behind side = accepts a (document_at ds inside) side.content && accepts a (document_at ds behind) side.rest

-- the left head takes an element with this content and this rest, and no right head does
pub record IsFailure (a : Automaton) (ds : List Document) (task : Task) (sides : List Side) (inside behind : Seq) : Type 0 where
  pub content_belongs : BelongsTo ds inside
  pub rest_belongs : BelongsTo ds behind
  pub content : accepts a (document_at ds inside) task.content ≡ true
  pub rest : accepts a (document_at ds behind) task.rest ≡ true
  pub refused : AllByRecursion (λ (s : Side). takes a ds inside behind s ≡ false) sides

-- one of the right heads takes the element
pub record IsTaker (a : Automaton) (ds : List Document) (sides : List Side) (inside behind : Seq) (side : Side) : Type 0 where
  pub place : ℕ
  pub found : slice_get sides place ≡ Some side
  pub takes_it : takes a ds inside behind side ≡ true

-- the same of a text, of which only the rest counts
abbrev pub IsTextFailure : List GoalRow → Task → List Side → Seq → Type 0
IsTextFailure rows task sides behind = IsRefutedBy rows (claim_with task.rest (gathered [] sides)) behind

abbrev pub IsFailureBySort : Bool → Automaton → List Document → List GoalRow → Task → List Side → Seq → Seq → Type 0
IsFailureBySort true a ds rows task sides inside behind = IsTextFailure rows task sides behind
IsFailureBySort false a ds rows task sides inside behind = IsFailure a ds task sides inside behind

-- a tree stands, or documents are there
abbrev pub GrownAs : (ℕ → Type 0) → (Seq → Seq → Type 0) → Grown → Type 0
GrownAs P Q (Stands root) = P root
GrownAs P Q (Fails inside behind) = Q inside behind

-- the same, or a right head is there
abbrev pub GoesOnAs : (ℕ → Type 0) → (Seq → Seq → Type 0) → (Side → Type 0) → Growth → Type 0
GoesOnAs P Q R (Ends grown) = GrownAs P Q grown
GoesOnAs P Q R (Splits side) = R side

-- the goal has this claim, and the case among its dependents
pub record IsLeafFor (t : TableView) (owner : GoalCase) (c : Claim State) (goal : ℕ) : Type 0 where
  pub claim : claim_at t.rows goal ≡ Some c
  pub listed : IsListed t goal owner

-- right heads stand in the order of their numbers
pub record AreApart (sides : List Side) : Type 0 where
  pub rise : (i j : ℕ) (s t : Side) → i < j → slice_get sides i ≡ Some s → slice_get sides j ≡ Some t → s.number < t.number

-- a right head has this number
pub record IsNumbered (sides : List Side) (number : ℕ) (side : Side) : Type 0 where
  pub place : ℕ
  pub found : slice_get sides place ≡ Some side
  pub same : side.number ≡ number

-- all states on the way belong to an automaton with so many, and stand in order
pub record IsPathBelow (n : ℕ) (task : Task) (sides : List Side) (contents rests : List State) : Type 0 where
  pub content_below : task.content.number < n
  pub rest_below : task.rest.number < n
  pub apart : AreApart sides
  pub sides_below : AllByRecursion (λ (s : Side). (s.content.number < n) × (s.rest.number < n)) sides
  pub contents_below : AreBelow n contents
  pub rests_below : AreBelow n rests
  pub contents_order : IsInOrder contents
  pub rests_order : IsInOrder rests

-- the node splits on a right head, between older nodes
pub record IsSplitAt (nodes : List ChoiceNode) (right content rest n : ℕ) : Type 0 where
  pub found : slice_get nodes n ≡ Some (Split right content rest)
  pub content_older : content < n
  pub rest_older : rest < n
