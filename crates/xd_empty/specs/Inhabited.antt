-- States that have documents, and how these are found.
use Rattle.std.specs.Prelude.{◌≡◌, ℕ, ◌<◌, ◌≤◌, ◌⊎◌, true, false, Option, Some, None, List, length, slice_index_or, sum_by, Contains, ◌+◌}
use Rattle.xd_doc.specs.Document.{Document}
use Rattle.xd_doc.specs.Stored.{document_at}
use Rattle.xd_doc.specs.StoredSeq.{BelongsTo}
use Rattle.xd_doc.specs.declared.store.Seq.{Seq}
use Rattle.xd_auto.specs.declared.auto.State.{State}
use Rattle.xd_auto.specs.Automaton.{Automaton, accepts, moves_at, state_number}
use Rattle.xd_empty.specs.declared.uses.Use.{Use}
use Rattle.xd_empty.specs.Uses.{IsNewUse, parts_of, user, uses_at}

-- a document of the store that the state accepts
pub record IsWitness (a : Automaton) (ds : List Document) (s : State) (seq : Seq) : Type 0 where
  pub belongs : BelongsTo ds seq
  pub accepted : accepts a (document_at ds seq) s ≡ true

-- the document that was found for a state
abbrev pub IsFound : List (Option Seq) → State → Seq → Type 0
IsFound fs s seq = slice_index_or fs (state_number s) None ≡ Some seq

abbrev pub IsUnknown : List (Option Seq) → State → Type 0
IsUnknown fs s = slice_index_or fs (state_number s) None ≡ None

-- each document that was found is accepted by its state
abbrev pub AreWitnesses : Automaton → List Document → List (Option Seq) → Type 0
AreWitnesses a ds fs = (s : State) (seq : Seq) → IsFound fs s seq → IsWitness a ds s seq

-- for each state of the automaton a document that it accepts; none was found exactly where it
-- accepts none
pub record AreInhabitants (a : Automaton) (ds : List Document) (fs : List (Option Seq)) : Type 0 where
  pub count : length fs ≡ length a
  pub witnesses : AreWitnesses a ds fs
  pub none : (s : State) → IsUnknown fs s → (d : Document) → accepts a d s ≡ false

-- New states are those from the number `first` on.

-- for one of the states none was found
abbrev pub LacksOne : List (Option Seq) → List State → Type 0
LacksOne fs states = (t : State) × Contains states t × IsUnknown fs t

-- the move stands in the list, from this place on
abbrev pub Waits : List Use → ℕ → Use → Type 0
Waits waiting done u = (i : ℕ) × (done ≤ i) × (i < length waiting) × (slice_index_or waiting i u ≡ u)

-- how many moves are listed or stand in line
abbrev pub steps_in : List (List Use) → List Use → ℕ
steps_in uses waiting = sum_by length uses + length waiting

-- of the states before this number it is known what they accept
abbrev pub IsSettledBelow : ℕ → Automaton → List (Option Seq) → Type 0
IsSettledBelow first a fs = (s : State) → state_number s < first → IsUnknown fs s → (d : Document) → accepts a d s ≡ false

-- what is known when the search begins: of no new state anything was found
pub record Starts (a : Automaton) (ds : List Document) (first : ℕ) (fs : List (Option Seq)) : Type 0 where
  pub within : first ≤ length a
  pub count : length fs ≡ length a
  pub witnesses : AreWitnesses a ds fs
  pub settled : IsSettledBelow first a fs
  pub unknown : (s : State) → first ≤ state_number s → IsUnknown fs s

-- what holds at each step: of the new states below n those that accept the empty document are
-- found, and each move of a new state without a document waits or leads to a state without one;
-- where that is a new state, the move is listed under it
pub record Searching (a : Automaton) (ds : List Document) (first n : ℕ) (fs : List (Option Seq)) (uses : List (List Use)) (waiting : List Use) (done : ℕ) : Type 0 where
  pub count : length fs ≡ length a
  pub sized : length uses ≡ length a
  pub within : done ≤ length waiting
  pub witnesses : AreWitnesses a ds fs
  pub settled : IsSettledBelow first a fs
  pub last : (s : State) → first ≤ state_number s → state_number s < n → IsUnknown fs s → (moves_at a s).last ≡ false
  pub moves : (u : Use) → IsNewUse a first u → IsUnknown fs (user u) → Waits waiting done u ⊎ LacksOne fs (parts_of a u)
  pub listed : (u : Use) (t : State) → IsNewUse a first u → Contains (parts_of a u) t → first ≤ state_number t → IsUnknown fs t → Contains (uses_at uses t) u
  pub uses_there : (t : State) (u : Use) → Contains (uses_at uses t) u → IsNewUse a first u
  pub waiting_there : (u : Use) → Contains waiting u → IsNewUse a first u
