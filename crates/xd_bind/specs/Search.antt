-- How the states ahead of the start are found.
use Rattle.std.specs.Prelude.{◌≡◌, ◌⊎◌, ℕ, ◌+◌, ◌<◌, Bool, true, false, List, length, slice_get, Some}
use Rattle.std.specs.Option.{IfSome}
use Rattle.xd_auto.specs.declared.auto.State.{State}
use Rattle.xd_auto.specs.Automaton.{Automaton, IsState, StateMoves, moves_at}
use Rattle.xd_empty.specs.Parts.{is_marked}
use Rattle.xd_bind.specs.Marks.{unmarked}
use Rattle.xd_auto.specs.Leading.{LabelFilled, TextFilled, label_ends, text_ends}
use Rattle.xd_auto.specs.declared.leading.Ends.{Ends}
use Rattle.xd_auto.specs.Traces.{Owned}
use Rattle.xd_bind.specs.Ahead.{IsAhead}

abbrev pub IsListed : List State → State → Type 0
IsListed order s = (i : ℕ) × (slice_get order i ≡ Some s)

-- each marked state is listed
abbrev pub AreListed : List State → List Bool → Type 0
AreListed order marks = (s : State) → is_marked marks s ≡ true → IsListed order s

-- more states were listed and marked, each of this kind
pub record Grows (Kind : State → Type 0) (order : List State) (marks : List Bool) (order2 : List State) (marks2 : List Bool) : Type 0 where
  pub sized : length marks2 ≡ length marks
  pub kept : (s : State) → is_marked marks s ≡ true → is_marked marks2 s ≡ true
  pub front : (i : ℕ) (s : State) → slice_get order i ≡ Some s → slice_get order2 i ≡ Some s
  pub news : (i : ℕ) (s : State) → slice_get order2 i ≡ Some s → IsListed order s ⊎ Kind s
  pub listed : AreListed order marks → AreListed order2 marks2
  pub counted : length order2 + unmarked marks2 ≡ length order + unmarked marks

-- the state has a mark
abbrev pub HasMark : List Bool → State → Type 0
HasMark marks s = s.number < length marks

-- a move leads to the state behind it, or inside, where what is left aside is free
pub data IsSideOf (free : State → Bool) (e : Ends) (t : State) : Type 0 where
  is_behind : IfSome e.inside (λ s. free s ≡ true) → e.behind ≡ t → IsSideOf free e t
  is_inside : free e.behind ≡ true → e.inside ≡ Some t → IsSideOf free e t

-- one of the moves that doesn't belong to the variable leads there
pub record LeadsBy {M : Type 0} (ends : M → Ends) (owned : ℕ → Bool) (free : State → Bool) (moves : List M) (t : State) : Type 0 where
  pub number : ℕ
  pub move : M
  pub there : slice_get moves number ≡ Some move
  pub own : owned number ≡ false
  pub side : IsSideOf free (ends move) t

abbrev pub LeadsAhead : Owned → (State → Bool) → State → StateMoves → State → Type 0
LeadsAhead b free s moves t = LeadsBy text_ends (b.text s) free moves.texts t ⊎ LeadsBy label_ends (b.element s) free moves.labels t

-- each state that the move leads to is marked where the other one is free
abbrev pub SidesMarked : (State → Bool) → List Bool → Ends → Type 0
SidesMarked free marks e = (t : State) → IsSideOf free e t → is_marked marks t ≡ true

-- so is what the move leads to, and it has a name
pub record IsFollowed {M : Type 0} (Filled : M → Type 0) (ends : M → Ends) (free : State → Bool) (marks : List Bool) (m : M) : Type 0 where
  pub sides : SidesMarked free marks (ends m)
  pub filled : Filled m

-- of the first moves, so many, those that don't belong to the variable are followed
abbrev pub AllFollowed : {M : Type 0} → (M → Type 0) → (M → Ends) → (ℕ → Bool) → (State → Bool) → List M → List Bool → ℕ → Type 0
AllFollowed {M} Filled ends owned free moves marks count =
    (n : ℕ) (m : M) → n < count → slice_get moves n ≡ Some m → owned n ≡ false → IsFollowed Filled ends free marks m

-- more states were listed and marked, to which moves lead, and so many moves were gone through
pub record IsVisiting {M : Type 0} (Filled : M → Type 0) (ends : M → Ends) (owned : ℕ → Bool) (free : State → Bool) (moves : List M) (order : List State) (marks : List Bool) (order2 : List State) (marks2 : List Bool) (count : ℕ) : Type 0 where
  pub grows : Grows (LeadsBy ends owned free moves) order marks order2 marks2
  pub marked : AllFollowed Filled ends owned free moves marks2 count

-- all moves of the state that don't belong to the variable are followed
pub record AreFollowed (b : Owned) (free : State → Bool) (s : State) (moves : StateMoves) (marks : List Bool) : Type 0 where
  pub texts : AllFollowed TextFilled text_ends (b.text s) free moves.texts marks (length moves.texts)
  pub elements : AllFollowed LabelFilled label_ends (b.element s) free moves.labels marks (length moves.labels)

-- the states that are listed lie ahead of the start, which is marked, and the first of them, so
-- many, are followed
pub record IsSearch (a : Automaton) (b : Owned) (start : State) (free : State → Bool) (order : List State) (marks : List Bool) (count : ℕ) : Type 0 where
  pub sized : length marks ≡ length a
  pub states : (i : ℕ) (s : State) → slice_get order i ≡ Some s → IsState a s
  pub sound : (i : ℕ) (s : State) → slice_get order i ≡ Some s → IsAhead a b free start s
  pub listed : AreListed order marks
  pub begun : is_marked marks start ≡ true
  pub followed : (i : ℕ) (s : State) → i < count → slice_get order i ≡ Some s → AreFollowed b free s (moves_at a s) marks
