-- Tree automata over documents: states with moves, and which documents a state accepts.
use Rattle.std.specs.Prelude.{◌≡◌, ◌≢◌, ℕ, ◌<◌, ◌≤◌, Bool, true, false, ◌&&◌, List, [], ◌∷◌, ◌++◌, length, slice_index_or, slice_set}
use Rattle.std.specs.List.{All, list_any}
use Rattle.xd_doc.specs.Document.{Document, empty, text, element, join}
use Rattle.xd_doc.specs.Classes.{class_has}
use Rattle.xd_auto.specs.declared.auto.State.{State}
use Rattle.xd_auto.specs.declared.auto.LabelMove.{LabelMove}
use Rattle.xd_auto.specs.declared.auto.TextMove.{TextMove}

-- what a state has: whether it accepts the empty document, its moves on an element, and its moves
-- on a text
pub record StateMoves : Type 0 where
  pub last : Bool
  pub labels : List LabelMove
  pub texts : List TextMove

-- the states, by their numbers
abbrev pub Automaton : Type 0
Automaton = List StateMoves

abbrev pub state_number : State → ℕ
state_number s = s.number

-- the state belongs to the automaton
abbrev pub IsState : Automaton → State → Type 0
IsState a s = state_number s < length a

abbrev pub no_moves : Bool → StateMoves
no_moves last = record { last = last; labels = []; texts = [] }

-- what the state has
abbrev pub moves_at : Automaton → State → StateMoves
moves_at a s = slice_index_or a (state_number s) (no_moves false)

-- whether the state accepts the document
abbrev pub accepts : Automaton → Document → State → Bool
accepts a empty s = (moves_at a s).last
accepts a (text t rest) s = list_any (λ m. class_has m.words t && accepts a rest m.rest) (moves_at a s).texts
accepts a (element l content rest) s =
    list_any (λ m. class_has m.class l && (accepts a content m.content && accepts a rest m.rest)) (moves_at a s).labels

-- the move leads over an element with this label and content, and what follows it
abbrev pub takes_element : Automaton → List ℕ → Document → Document → LabelMove → Bool
takes_element a l content rest m = class_has m.class l && (accepts a content m.content && accepts a rest m.rest)

-- the same over a text, and what follows it
abbrev pub takes_word : Automaton → List ℕ → Document → TextMove → Bool
takes_word a t rest m = class_has m.words t && accepts a rest m.rest

-- the moves lead to states below n
pub record LeadsBelow (n : ℕ) (moves : StateMoves) : Type 0 where
  pub labels : All (λ m. (state_number m.content < n) × (state_number m.rest < n)) moves.labels
  pub texts : All (λ m. state_number m.rest < n) moves.texts

-- each move leads to a state of the automaton
abbrev pub IsClosed : Automaton → Type 0
IsClosed a = All (LeadsBelow (length a)) a

-- each old state belongs to the new automaton too, with the moves that it had
pub record Extends (old new : Automaton) : Type 0 where
  pub states : (s : State) → IsState old s → IsState new s
  pub moves : (s : State) → IsState old s → moves_at new s ≡ moves_at old s

-- each old state accepts what it did
abbrev pub KeepsAccepting : Automaton → Automaton → Type 0
KeepsAccepting old new = (d : Document) (s : State) → IsState old s → accepts new d s ≡ accepts old d s

-- no state came or went, and each other one has the moves that it had
pub record ChangesOnly (changed : State) (old new : Automaton) : Type 0 where
  pub states : length new ≡ length old
  pub others : (s : State) → state_number s ≢ state_number changed → moves_at new s ≡ moves_at old s

-- the automaton with these moves at a state
abbrev pub with_moves : Automaton → State → StateMoves → Automaton
with_moves a s moves = slice_set a (state_number s) moves

-- the automaton where a state accepts the empty document, or not
abbrev pub with_last : Automaton → State → Bool → Automaton
with_last a s last = with_moves a s (record (moves_at a s) { last = last })

-- the automaton with one more move of a state, after its others
abbrev pub with_label_move : Automaton → State → LabelMove → Automaton
with_label_move a s move = with_moves a s (record (moves_at a s) { labels = (moves_at a s).labels ++ move ∷ [] })

abbrev pub with_text_move : Automaton → State → TextMove → Automaton
with_text_move a s move = with_moves a s (record (moves_at a s) { texts = (moves_at a s).texts ++ move ∷ [] })

-- the document is one element with the label, whose content the state accepts
pub record IsWrapped (a : Automaton) (label : List ℕ) (content : State) (d : Document) : Type 0 where
  pub inside : Document
  pub is : d ≡ element label inside empty
  pub accepted : accepts a inside content ≡ true

-- the document is one that the first state accepts, followed by one that the second accepts
pub record IsJoined (a : Automaton) (one two : State) (d : Document) : Type 0 where
  pub front : Document
  pub back : Document
  pub is : d ≡ join front back
  pub front_accepted : accepts a front one ≡ true
  pub back_accepted : accepts a back two ≡ true

-- the first of these from this number on that has the name, or their number where there is none
pub record IsNext {M N : Type 0} (has : M → N → Bool) (moves : List M) (name : N) (from number : ℕ) : Type 0 where
  pub after : from ≤ number
  pub within : number ≤ length moves
  pub here : (d : M) → number < length moves → has (slice_index_or moves number d) name ≡ true
  pub lacks : (k : ℕ) (d : M) → from ≤ k → k < number → has (slice_index_or moves k d) name ≡ false

abbrev pub has_label : LabelMove → List ℕ → Bool
has_label m label = class_has m.class label

abbrev pub has_text : TextMove → List ℕ → Bool
has_text m characters = class_has m.words characters
