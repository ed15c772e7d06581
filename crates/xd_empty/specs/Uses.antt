-- The moves that lead to each state.
use Rattle.std.specs.Prelude.{◌≡◌, ℕ, ◌<◌, ◌≤◌, ◌⊎◌, List, [], ◌∷◌, ◌++◌, length, map, replicate, slice_get, slice_index_or, Option, Some, None, Vec, Contains}
use Rattle.xd_auto.specs.declared.auto.State.{State}
use Rattle.xd_auto.specs.declared.auto.LabelMove.{LabelMove}
use Rattle.xd_auto.specs.declared.auto.TextMove.{TextMove}
use Rattle.xd_auto.specs.Automaton.{Automaton, IsState, moves_at, state_number}
use Rattle.xd_empty.specs.declared.uses.Use.{Use}
use Rattle.xd_empty.specs.declared.uses.Uses.{Uses}
use Rattle.xd_empty.specs.declared.uses.Use.TheVariants.{Element, Text}

-- the state that the move is of
abbrev pub user : Use → State
user (Element s n) = s
user (Text s n) = s

-- the state has this move
abbrev pub IsUse : Automaton → Use → Type 0
IsUse a (Element s n) = IsState a s × (n < length (moves_at a s).labels)
IsUse a (Text s n) = IsState a s × (n < length (moves_at a s).texts)

abbrev pub element_parts : Option LabelMove → List State
element_parts None = []
element_parts (Some m) = m.content ∷ m.rest ∷ []

abbrev pub text_parts : Option TextMove → List State
text_parts None = []
text_parts (Some m) = m.rest ∷ []

-- the states that the move leads to
abbrev pub parts_of : Automaton → Use → List State
parts_of a (Element s n) = element_parts (slice_get (moves_at a s).labels n)
parts_of a (Text s n) = text_parts (slice_get (moves_at a s).texts n)

-- the state with this move has this number or a later one
abbrev pub IsNewUse : Automaton → ℕ → Use → Type 0
IsNewUse a first u = IsUse a u × (first ≤ state_number (user u))

-- the lists of the states from this number on, after empty ones for the states before
abbrev pub lists_from : {A : Type 0} → ℕ → List (Vec Use A) → List (List Use)
lists_from first uses = replicate first [] ++ map (λ list. list.items) uses

abbrev pub lists_by_state : Uses → List (List Use)
lists_by_state uses = lists_from uses.first uses.lists.items

-- the moves that are listed under a state
abbrev pub uses_at : List (List Use) → State → List Use
uses_at uses s = slice_index_or uses (state_number s) []

-- one of these states has this number or a later one
abbrev pub HasNew : ℕ → List State → Type 0
HasNew first states = (t : State) × Contains states t × (first ≤ state_number t)

-- the move is listed under those of these states that have this number or a later one; where there
-- is none it waits
pub record Lists (first : ℕ) (states : List State) (uses : List (List Use)) (waiting : List Use) (u : Use) : Type 0 where
  pub listed : (t : State) → Contains states t → first ≤ state_number t → Contains (uses_at uses t) u
  pub waits : Contains waiting u ⊎ HasNew first states

-- such moves alone were added to the lists and to those that wait
pub record AddsUses (IsAdded : Use → Type 0) (old new : List (List Use)) (waited waiting : List Use) : Type 0 where
  pub sized : length new ≡ length old
  pub keeps : (t : State) (u : Use) → Contains (uses_at old t) u → Contains (uses_at new t) u
  pub adds : (t : State) (u : Use) → Contains (uses_at new t) u → Contains (uses_at old t) u ⊎ IsAdded u
  pub keeps_waiting : (u : Use) → Contains waited u → Contains waiting u
  pub adds_waiting : (u : Use) → Contains waiting u → Contains waited u ⊎ IsAdded u

-- the moves of the states from this number on, listed under those of these states that they lead
-- to; those that lead to none wait
pub record AreUses (a : Automaton) (first : ℕ) (uses : List (List Use)) (waiting : List Use) : Type 0 where
  pub sized : length uses ≡ length a
  pub there : (t : State) (u : Use) → Contains (uses_at uses t) u → IsNewUse a first u
  pub waiting_there : (u : Use) → Contains waiting u → IsNewUse a first u
  pub listed : (u : Use) → IsNewUse a first u → Lists first (parts_of a u) uses waiting u
