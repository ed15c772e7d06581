-- Which states are reached from another, and how states are copied.
use Rattle.std.specs.Prelude.{◌≡◌, ◌≢◌, ℕ, ◌+◌, ◌<◌, ◌≤◌, Bool, true, false, nat_eq, ◌&&◌, is_some, List, [], ◌∷◌, ◌++◌, length, map, slice_index_or, Option, Some, None}
use Rattle.std.specs.List.{All, AllZip, Contains, list_any}
use Rattle.std.specs.HashMap.{HashMap, get}
use Rattle.std.specs.Cmp.Lexicographic.{pointwise}
use Rattle.xd_doc.specs.Document.{Document, empty, text, element}
use Rattle.xd_doc.specs.Classes.{LabelClass, class_has}
use Rattle.xd_auto.specs.declared.auto.State.{State}
use Rattle.xd_auto.specs.declared.auto.LabelMove.{LabelMove}
use Rattle.xd_auto.specs.declared.auto.TextMove.{TextMove}
use Rattle.xd_auto.specs.Automaton.{Automaton, Extends, IsClosed, IsState, KeepsAccepting, LeadsBelow, StateMoves, accepts, moves_at, no_moves}
use Rattle.xd_auto.specs.Counts.{left_out}

-- the copy of each state, by the state's number, if it has one
abbrev pub Copies : Type 0
Copies = ℕ → Option State

abbrev pub no_copies : Copies
no_copies = λ n. None

abbrev pub copies_in : {S : Type 0} → HashMap ℕ State S → Copies
copies_in m = λ n. get nat_eq m n

abbrev pub copy_of : Copies → State → Option State
copy_of copies s = copies s.number

abbrev pub or_itself : State → Option State → State
or_itself s None = s
or_itself s (Some c) = c

-- the state's copy, or the state itself where it has none
abbrev pub moved : Copies → State → State
moved copies s = or_itself s (copy_of copies s)

-- a move on the same labels, to copies
pub record IsCopy (contents rests : Copies) (old new : LabelMove) : Type 0 where
  pub class : new.class ≡ old.class
  pub content : new.content ≡ moved contents old.content
  pub rest : new.rest ≡ moved rests old.rest

abbrev pub moved_text : Copies → TextMove → TextMove
moved_text rests m = record { words = m.words; rest = moved rests m.rest }

-- copies of these moves were added
pub record AddsCopies (contents rests : Copies) (moves old new : List LabelMove) : Type 0 where
  pub more : List LabelMove
  pub behind : new ≡ old ++ more
  pub copies : AllZip (IsCopy contents rests) moves more

-- copies of a state's moves were added to those of another
pub record AddsMoves (contents rests : Copies) (moves old new : StateMoves) : Type 0 where
  pub last : new.last ≡ old.last
  pub labels : AddsCopies contents rests moves.labels old.labels new.labels
  pub texts : new.texts ≡ old.texts ++ map (moved_text rests) moves.texts

-- the copy of a state; with a tail it goes on there too where the state accepts the empty document,
-- which then is accepted where the tail accepts it
pub record IsFrontCopy (a : Automaton) (contents rests : Copies) (tail s : State) (made : StateMoves) : Type 0 where
  pub front : StateMoves
  pub copied : AddsMoves contents rests (moves_at a s) (no_moves ((moves_at a s).last && (moves_at a tail).last)) front
  pub joined : (moves_at a s).last ≡ true → AddsMoves no_copies no_copies (moves_at a tail) front made
  pub ended : (moves_at a s).last ≡ false → made ≡ front

abbrev pub IsStateCopy : Automaton → Copies → Copies → Option State → State → StateMoves → Type 0
IsStateCopy a contents rests None s made = AddsMoves contents rests (moves_at a s) (no_moves (moves_at a s).last) made
IsStateCopy a contents rests (Some tail) s made = IsFrontCopy a contents rests tail s made

abbrev pub AreStateCopies : Automaton → Copies → Copies → Option State → List State → List StateMoves → Type 0
AreStateCopies a contents rests tail order made = AllZip (IsStateCopy a contents rests tail) order made

-- whether a state with these moves accepts the document
abbrev pub accepts_by : Automaton → StateMoves → Document → Bool
accepts_by a moves empty = moves.last
accepts_by a moves (text t rest) = list_any (λ m. class_has m.words t && accepts a rest m.rest) moves.texts
accepts_by a moves (element l content rest) =
    list_any (λ m. class_has m.class l && (accepts a content m.content && accepts a rest m.rest)) moves.labels

-- the moves of some states: what they accept in an automaton that has grown is what one of the
-- states does
pub record AreUnited (a : Automaton) (states : List State) (made : StateMoves) : Type 0 where
  pub below : IsClosed a → LeadsBelow (length a) made
  pub accepted : (b : Automaton) → Extends a b → KeepsAccepting a b → (d : Document) → accepts_by b made d ≡ list_any (accepts a d) states

-- one move, on an element with this label alone
pub record IsAround (label : List ℕ) (content rest : State) (made : StateMoves) : Type 0 where
  pub class : LabelClass
  pub just : (l : List ℕ) → class_has class l ≡ pointwise nat_eq label l
  pub is : made ≡ record { last = false; labels = record { class = class; content = content; rest = rest } ∷ []; texts = [] }

abbrev pub HasCopy : Copies → State → Type 0
HasCopy copies s = (c : State) × (copy_of copies s ≡ Some c)

-- each state that the moves lead to for what follows has a copy, and where contents count each for
-- a content too
pub record AreCopied (contents : Bool) (copies : Copies) (moves : StateMoves) : Type 0 where
  pub content_copies : contents ≡ true → All (λ m. HasCopy copies m.content) moves.labels
  pub rest_copies : All (λ m. HasCopy copies m.rest) moves.labels
  pub text_copies : All (λ m. HasCopy copies m.rest) moves.texts

-- the move leads to states below n
abbrev pub LabelBelow : ℕ → LabelMove → Type 0
LabelBelow n m = (m.content.number < n) × (m.rest.number < n)

-- one of the moves leads to the state: for what follows, or where contents count for a content
pub data IsTarget (contents : Bool) (moves : List LabelMove) (t : State) : Type 0 where
  is_content : (m : LabelMove) → contents ≡ true → Contains moves m → m.content ≡ t → IsTarget contents moves t
  is_rest : (m : LabelMove) → Contains moves m → m.rest ≡ t → IsTarget contents moves t

-- one of the moves on a text leads to the state
abbrev pub IsTextTarget : List TextMove → State → Type 0
IsTextTarget moves t = (m : TextMove) × Contains moves m × (m.rest ≡ t)

-- a move of one state leads to the other
pub data LeadsTo (a : Automaton) (s t : State) : Type 0 where
  by_element : IsTarget true (moves_at a s).labels t → LeadsTo a s t
  by_text : IsTextTarget (moves_at a s).texts t → LeadsTo a s t

-- moves lead from the first state to the other
pub data IsReached (a : Automaton) (start : State) : State → Type 0 where
  here : IsReached a start start
  further : (s t : State) → IsReached a start s → LeadsTo a s t → IsReached a start t

-- the state accepts what a state does that is reached from the start of another automaton; a move
-- leads there, unless it is the copy of the start
pub record IsCopyOf (a : Automaton) (start : State) (new : Automaton) (new_start s : State) : Type 0 where
  pub original : State
  pub reached : IsReached a start original
  pub led : s ≢ new_start → (r : State) × IsReached a start r × LeadsTo a r original
  pub same : (d : Document) → accepts new d s ≡ accepts a d original

-- states in the order in which they were found, and their copies, numbered from a base on
pub record ArePlaced (base : ℕ) (order : List State) (copies : Copies) : Type 0 where
  pub placed : (i : ℕ) (e : State) → i < length order → copy_of copies (slice_index_or order i e) ≡ Some (record { number = base + i })
  pub listed : (s c : State) → copy_of copies s ≡ Some c → (i : ℕ) × (i < length order) × (slice_index_or order i s ≡ s) × (c ≡ record { number = base + i })

-- more states were found, each of this kind; those that were found before stay, and keep their
-- copies
pub record FindsMore (Kind : State → Type 0) (order : List State) (copies : Copies) (order2 : List State) (copies2 : Copies) : Type 0 where
  pub longer : length order ≤ length order2
  pub front : (i : ℕ) (e : State) → i < length order → slice_index_or order2 i e ≡ slice_index_or order i e
  pub news : (i : ℕ) (e : State) → length order ≤ i → i < length order2 → Kind (slice_index_or order2 i e)
  pub kept : (s : State) → HasCopy copies s → HasCopy copies2 s

-- the copies are placed, and more states of this kind were found
pub record Finds (Kind : State → Type 0) (base : ℕ) (order : List State) (copies : Copies) (order2 : List State) (copies2 : Copies) : Type 0 where
  pub placed : ArePlaced base order2 copies2
  pub more : FindsMore Kind order copies order2 copies2

-- each state but the first is found from an older one
abbrev pub HaveParents : Automaton → List State → Type 0
HaveParents a order = (i : ℕ) (e : State) → 0 < i → i < length order → (k : ℕ) × (k < i) × LeadsTo a (slice_index_or order k e) (slice_index_or order i e)

-- the states that the first one leads to, each with its copy
pub record Reached (a : Automaton) (contents : Bool) (start : State) (base : ℕ) (order : List State) (copies : Copies) : Type 0 where
  pub placed : ArePlaced base order copies
  pub states : All (IsState a) order
  pub some : 0 < length order
  pub head : (e : State) → slice_index_or order 0 e ≡ start
  pub parents : HaveParents a order
  pub closed : (i : ℕ) (e : State) → i < length order → AreCopied contents copies (moves_at a (slice_index_or order i e))

-- how many of the first n states have no copy
abbrev pub uncopied : Copies → ℕ → ℕ
uncopied copies n = left_out (λ i. is_some (copies i)) n
