-- States that accept some document, and the part of an automaton that leads to such states.
use Rattle.std.specs.Prelude.{◌≡◌, ◌≢◌, Bool, true, false, ◌&&◌, List, ◌++◌, filter, length, slice_index_or}
use Rattle.xd_doc.specs.Document.{Document, is_proper}
use Rattle.xd_auto.specs.declared.auto.State.{State}
use Rattle.xd_auto.specs.declared.auto.LabelMove.{LabelMove}
use Rattle.xd_auto.specs.declared.auto.TextMove.{TextMove}
use Rattle.xd_auto.specs.Automaton.{Automaton, ChangesOnly, IsState, accepts, moves_at, state_number}
use Rattle.xd_auto.specs.Copying.{IsReached}

-- a document that the state accepts
pub record HasDocument (a : Automaton) (s : State) : Type 0 where
  pub document : Document
  pub proper : is_proper document ≡ true
  pub accepted : accepts a document s ≡ true

abbrev pub is_marked : List Bool → State → Bool
is_marked marks s = slice_index_or marks (state_number s) false

-- just the states that accept some document are marked
pub record AreMarks (a : Automaton) (marks : List Bool) : Type 0 where
  pub count : length marks ≡ length a
  pub some : (s : State) → is_marked marks s ≡ true → HasDocument a s
  pub none : (s : State) → is_marked marks s ≡ false → (d : Document) → accepts a d s ≡ false

-- each state is reached from the start, and each but the start accepts some document
pub record IsInhabitedPart (a : Automaton) (start : State) : Type 0 where
  pub reached : (s : State) → IsState a s → IsReached a start s
  pub inhabited : (s : State) → IsState a s → s ≢ start → HasDocument a s

-- the move leads to marked states
abbrev pub leads_on : List Bool → LabelMove → Bool
leads_on marks m = is_marked marks m.content && is_marked marks m.rest

abbrev pub text_leads_on : List Bool → TextMove → Bool
text_leads_on marks m = is_marked marks m.rest

-- the same states, with those of their moves that lead to marked states
pub record IsKeptPart (a : Automaton) (marks : List Bool) (made : Automaton) : Type 0 where
  pub count : length made ≡ length a
  pub last : (s : State) → (moves_at made s).last ≡ (moves_at a s).last
  pub labels : (s : State) → (moves_at made s).labels ≡ filter (leads_on marks) (moves_at a s).labels
  pub texts : (s : State) → (moves_at made s).texts ≡ filter (text_leads_on marks) (moves_at a s).texts

-- those of these moves that lead to marked states were given to the state
pub record AddsLabels (marks : List Bool) (s : State) (moves : List LabelMove) (old new : Automaton) : Type 0 where
  pub others : ChangesOnly s old new
  pub last : (moves_at new s).last ≡ (moves_at old s).last
  pub labels : (moves_at new s).labels ≡ (moves_at old s).labels ++ filter (leads_on marks) moves
  pub texts : (moves_at new s).texts ≡ (moves_at old s).texts

pub record AddsTexts (marks : List Bool) (s : State) (moves : List TextMove) (old new : Automaton) : Type 0 where
  pub others : ChangesOnly s old new
  pub last : (moves_at new s).last ≡ (moves_at old s).last
  pub labels : (moves_at new s).labels ≡ (moves_at old s).labels
  pub texts : (moves_at new s).texts ≡ (moves_at old s).texts ++ filter (text_leads_on marks) moves
