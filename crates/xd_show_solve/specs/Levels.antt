-- The states that a state leads to after items, as equations.
use Rattle.std.specs.Prelude.{◌≡◌, ◌↔◌, ◌<◌, ◌≤◌, ◌+◌, ℕ, Bool, true, false, List, [], ◌∷◌, length, get_or, Option, Some, None}
use Rattle.std.specs.List.{AllByRecursion, list_any}
use Rattle.std.specs.Option.{IfSome}
use Rattle.xd_doc.specs.Document.{Document, empty, text, element}
use Rattle.xd_auto.specs.declared.auto.State.{State}
use Rattle.xd_auto.specs.declared.auto.LabelMove.{LabelMove}
use Rattle.xd_auto.specs.declared.auto.TextMove.{TextMove}
use Rattle.xd_auto.specs.Automaton.{Automaton, IsState, accepts, moves_at, state_number, takes_element, takes_word}
use Rattle.xd_syntax.specs.Tree.{Tree, Empty}
use Rattle.xd_syntax.specs.Words.{any_word}
use Rattle.xd_syntax.specs.Table.{Row, tree_at}
use Rattle.xd_syntax.specs.declared.types.TypeId.{TypeId}
use Rattle.xd_same_types.specs.Same.{Meaning, FitsAs, TakesItem}
use Rattle.xd_same_types.specs.Same.{HasTops}
use Rattle.xd_show_solve.specs.Equations.{Product, Side, Unknowns, ConstantTakes, SideTops, SideTakes, SomeTakes, own_in, side_in}
use Rattle.xd_show_solve.specs.declared.sums.Sum.{Sum}

-- what is known of a state, by its number
abbrev pub known_of : {A : Type 0} → List (Option A) → State → Option A
known_of xs s = get_or xs (state_number s) None

-- the document begins with an element that one of the moves takes, with all that follows it
abbrev pub LabelsTake : Automaton → List LabelMove → Document → Type 0
LabelsTake a ms empty = ⊥
LabelsTake a ms (text t r) = ⊥
LabelsTake a ms (element l c r) = list_any (takes_element a l c r) ms ≡ true

abbrev pub TextsTake : Automaton → List TextMove → Document → Type 0
TextsTake a ms empty = ⊥
TextsTake a ms (text t r) = list_any (takes_word a t r) ms ≡ true
TextsTake a ms (element l c r) = ⊥

-- what is written for the content of a state is fitted by just the documents that the state accepts
abbrev pub AreContents : Automaton → Meaning → List Row → List (Option TypeId) → Type 0
AreContents a N types written = (s : State) (id : TypeId) → known_of written s ≡ Some id → (d : Document) → (accepts a d s ≡ true) ↔ FitsAs N (tree_at types id.at) d

-- the name `Any` stands for every document
abbrev pub MeansAny : Meaning → Type 0
MeansAny N = (d : Document) → N any_word d ≡ true

-- the unknown of a state's place stands for what the state accepts
abbrev pub ArePlaces : Automaton → Unknowns → List (Option ℕ) → Type 0
ArePlaces a X places = (s : State) (p : ℕ) → known_of places s ≡ Some p → (d : Document) → (X p d ≡ true) ↔ (accepts a d s ≡ true)

-- a type is written for the content of the state
abbrev pub IsWritten : List (Option TypeId) → State → Type 0
IsWritten written s = (id : TypeId) × (known_of written s ≡ Some id)

-- the state has a place
abbrev pub IsPlaced : List (Option ℕ) → State → Type 0
IsPlaced places s = (p : ℕ) × (known_of places s ≡ Some p)

-- a state has the place
abbrev pub HasPlace : List (Option ℕ) → ℕ → Type 0
HasPlace places i = (s : State) × (known_of places s ≡ Some i)

-- for the content of the move a type is written, and what follows it has a place
pub record IsReady (written : List (Option TypeId)) (places : List (Option ℕ)) (m : LabelMove) : Type 0 where
  pub content : IsWritten written m.content
  pub rest : IsPlaced places m.rest

-- the types that are written for contents are there
abbrev pub WrittenBelong : List Row → List (Option TypeId) → Type 0
WrittenBelong types written = (s : State) (id : TypeId) → known_of written s ≡ Some id → id.at < length types

-- the product is a move on an element
pub record IsLabelProduct (a : Automaton) (types : List Row) (written : List (Option TypeId)) (places : List (Option ℕ)) (m : LabelMove) (p : Product) : Type 0 where
  pub takes : (N : Meaning) (X : Unknowns) → AreContents a N types written → ArePlaces a X places → (d : Document) → SomeTakes N X d (p ∷ []) ↔ LabelsTake a (m ∷ []) d
  pub item : TakesItem p.by
  pub place : HasPlace places p.to
  pub tops : (known : List (List ℕ)) → HasTops known p.by

-- the products are these moves on an element
pub record AreLabelProducts (a : Automaton) (types : List Row) (written : List (Option TypeId)) (places : List (Option ℕ)) (ms : List LabelMove) (ps : List Product) : Type 0 where
  pub takes : (N : Meaning) (X : Unknowns) → AreContents a N types written → ArePlaces a X places → (d : Document) → SomeTakes N X d ps ↔ LabelsTake a ms d
  pub items : AllByRecursion (λ (p : Product). TakesItem p.by) ps
  pub placed : AllByRecursion (λ (p : Product). HasPlace places p.to) ps
  pub tops : (known : List (List ℕ)) → AllByRecursion (λ (p : Product). HasTops known p.by) ps

abbrev pub ArePlaced : List (Option ℕ) → List LabelMove → Type 0
ArePlaced places ms = AllByRecursion (λ (m : LabelMove). IsPlaced places m.rest) ms

abbrev pub TextsArePlaced : List (Option ℕ) → List TextMove → Type 0
TextsArePlaced places ms = AllByRecursion (λ (m : TextMove). IsPlaced places m.rest) ms

-- how many are known
abbrev pub known_count : {A : Type 0} → List (Option A) → ℕ
known_count [] = 0
known_count (None ∷ xs) = known_count xs
known_count (Some x ∷ xs) = known_count xs + 1

-- what was known is known
abbrev pub KeepsKnown : {A : Type 0} → List (Option A) → List (Option A) → Type 0
KeepsKnown {A} old new = (s : State) (x : A) → known_of old s ≡ Some x → known_of new s ≡ Some x

-- places of states, at which they stand
pub record IsLevel (a : Automaton) (states : List State) (places : List (Option ℕ)) : Type 0 where
  pub count : length places ≡ length a
  pub right : (s : State) (p : ℕ) → known_of places s ≡ Some p → (p < length states) × (get_or states p s ≡ s)
  pub belong : AllByRecursion (IsState a) states
  pub few : length states ≤ known_count places

-- the states that were there stand where they stood
pub record GrowsStates (old new : List State) : Type 0 where
  pub count : length old ≤ length new
  pub stay : (i : ℕ) (s : State) → i < length old → get_or new i s ≡ get_or old i s

-- all that the state leads to after items has a place
abbrev pub IsClosedAt : Automaton → List (Option ℕ) → State → Type 0
IsClosedAt a places s = ArePlaced places (moves_at a s).labels × TextsArePlaced places (moves_at a s).texts

-- all that these states lead to after items has a place
pub record IsWholeLevel (a : Automaton) (states : List State) (places : List (Option ℕ)) : Type 0 where
  pub level : IsLevel a states places
  pub closed : (i : ℕ) (s : State) → i < length states → s ≡ get_or states i s → IsClosedAt a places s

-- so many states, none of which has a place
pub record ArePlacesOfNone (places : List (Option ℕ)) (n : ℕ) : Type 0 where
  pub count : length places ≡ n
  pub none : AllByRecursion (λ o. o ≡ None) places

-- the product is a move on a text
pub record IsTextProduct (a : Automaton) (places : List (Option ℕ)) (m : TextMove) (p : Product) : Type 0 where
  pub takes : (N : Meaning) (X : Unknowns) → ArePlaces a X places → (d : Document) → SomeTakes N X d (p ∷ []) ↔ TextsTake a (m ∷ []) d
  pub item : TakesItem p.by
  pub place : HasPlace places p.to
  pub tops : (known : List (List ℕ)) → HasTops known p.by

-- the products are these moves on a text
pub record AreTextProducts (a : Automaton) (places : List (Option ℕ)) (ms : List TextMove) (ps : List Product) : Type 0 where
  pub takes : (N : Meaning) (X : Unknowns) → ArePlaces a X places → (d : Document) → SomeTakes N X d ps ↔ TextsTake a ms d
  pub items : AllByRecursion (λ (p : Product). TakesItem p.by) ps
  pub placed : AllByRecursion (λ (p : Product). HasPlace places p.to) ps
  pub tops : (known : List (List ℕ)) → AllByRecursion (λ (p : Product). HasTops known p.by) ps

-- the right side of a state, which takes what the state accepts
pub record IsStateSide (a : Automaton) (types : List Row) (written : List (Option TypeId)) (places : List (Option ℕ)) (s : State) (side : Side) : Type 0 where
  pub takes : (N : Meaning) (X : Unknowns) → MeansAny N → AreContents a N types written → ArePlaces a X places → (d : Document) → SideTakes N X d side ↔ (accepts a d s ≡ true)
  pub items : AllByRecursion (λ (p : Product). TakesItem p.by) side.products
  pub placed : AllByRecursion (λ (p : Product). HasPlace places p.to) side.products
  pub tops : SideTops (any_word ∷ []) side

-- the right side's type alone: the empty one, where a run may end
abbrev pub last_tree : Bool → Option Tree
last_tree true = Some Empty
last_tree false = None

-- for each content of a move of these states a type is written
abbrev pub AreWritten : Automaton → List (Option TypeId) → List State → Type 0
AreWritten a written states = (i : ℕ) (s : State) → i < length states → s ≡ get_or states i s → AllByRecursion (λ (m : LabelMove). IsWritten written m.content) (moves_at a s).labels

-- the sums are those of the states
abbrev pub AreStateSums : Automaton → List Row → List (Option TypeId) → List (Option ℕ) → List State → List Row → List Sum → Type 0
AreStateSums a old written places states new sums = (i : ℕ) (s : State) (t : Sum) → i < length sums → s ≡ get_or states i s → t ≡ get_or sums i t → IsStateSide a old written places s (side_in new t)

-- Whatever names stand for, but that `Any` stands for every document: where what is written for the
-- contents is right, just the documents that the state accepts fit the type; without a type it
-- accepts none. The type uses no name outside of labels but `Any`.
pub record IsStateType (a : Automaton) (old : List Row) (written : List (Option TypeId)) (s : State) (new : List Row) (o : Option TypeId) : Type 0 where
  pub exact : (N : Meaning) → MeansAny N → AreContents a N old written → (d : Document) → (accepts a d s ≡ true) ↔ ConstantTakes N d (own_in new o)
  pub tops : IfSome (own_in new o) (HasTops (any_word ∷ []))
