-- An automaton whose states have continuations, while it is made.
use Rattle.std.specs.Prelude.{◌≡◌, ℕ, ◌<◌, ◌≤◌, ◌⊎◌, Bool, false, map, List, [], ◌∷◌, ◌++◌, length, get_or, Option, Some, None}
use Rattle.std.specs.List.{AllByRecursion}
use Rattle.xd_syntax.specs.Tree.{Tree, seq_of}
use Rattle.xd_syntax.specs.Table.{Row, tree_at}
use Rattle.xd_meaning.specs.CanBeEmpty.{can_be_empty}
use Rattle.xd_syntax.specs.TypeDepth.{depth}
use Rattle.xd_syntax.specs.ShallowTables.{IsShallow}
use Rattle.xd_syntax.specs.Shallow.{nesting_limit}
use Rattle.xd_syntax.specs.declared.types.TypeDef.{TypeDef}
use Rattle.xd_auto.specs.Automaton.{Automaton, StateMoves, no_moves, state_number}
use Rattle.xd_auto.specs.declared.auto.State.{State}
use Rattle.xd_continuations.specs.Continuation.{Move, moves, head_of, IsContinuation}
use Rattle.xd_continuations.specs.Mirrors.{Continuations, AreMirrored}
use Rattle.xd_sound.specs.TypeNames.{meanings}
use Rattle.xd_moves.specs.declared.expansion.Found.{Found}
use Rattle.xd_moves.specs.Found.{continuation, move_of, AddsCells}
use Rattle.xd_heads.specs.Sorts.{is_text, sorts_of, row_at}
use Rattle.xd_heads.specs.States.{AddsStates, StaysBounded, IsOfCell, number_at}
use Rattle.xd_moves.specs.Cells.{Cell}

abbrev pub numbered : List Row → List Cell → Option ℕ → Option (List Tree)
numbered types cells None = None
numbered types cells (Some n) = Some (continuation types cells n)

-- the continuation of a state
abbrev pub continuations_of : List Row → List Cell → List ℕ → Continuations
continuations_of types cells states s = numbered types cells (number_at states (state_number s))

-- a state without moves
abbrev pub fresh_state : List Row → List TypeDef → List Cell → ℕ → StateMoves
fresh_state types ds cells n = no_moves (can_be_empty (meanings types ds) (seq_of (continuation types cells n)))

-- the state has the continuation with this number; where none had, it is new
pub record GetsState (types : List Row) (ds : List TypeDef) (cells : List Cell) (old new : List ℕ) (old_auto new_auto : Automaton) (number : ℕ) (s : State) : Type 0 where
  pub added : ((new ≡ old) × (new_auto ≡ old_auto)) ⊎ ((new ≡ old ++ number ∷ []) × (new_auto ≡ old_auto ++ fresh_state types ds cells number ∷ []))
  pub there : number_at new (state_number s) ≡ Some number

-- the continuation may be that of a state: it is no deeper than a text may be nested, where the
-- types are not
abbrev pub IsOfState : List Row → List Tree → Type 0
IsOfState types K = IsContinuation K × (IsShallow types → depth (seq_of K) ≤ nesting_limit)

abbrev pub state_at : Automaton → ℕ → StateMoves
state_at a n = get_or a n (no_moves false)

-- states come after the others, and those below the first stay as they were
pub record Spares (first : ℕ) (old new : Automaton) : Type 0 where
  pub longer : length old ≤ length new
  pub stay : (n : ℕ) → n < first → state_at new n ≡ state_at old n

-- states come after the others, and none stays otherwise but this one
pub record SparesOthers (from : State) (old new : Automaton) : Type 0 where
  pub longer : length old ≤ length new
  pub stay : (n : ℕ) → n < length old → (n ≡ state_number from → ⊥) → state_at new n ≡ state_at old n

-- All states have their flags, those below this one have their moves, this one has these moves, and
-- the others have none yet.
pub record AreCompiled (types : List Row) (ds : List TypeDef) (cells : List Cell) (states : List ℕ) (auto : Automaton) (done : ℕ) (known : List Move) : Type 0 where
  pub aligned : length auto ≡ length states
  pub numbers : AllByRecursion (IsOfCell (length cells)) states
  pub continuations : (n k : ℕ) → number_at states n ≡ Some k → IsOfState types (continuation types cells k)
  pub flags : (n k : ℕ) → number_at states n ≡ Some k → (state_at auto n).last ≡ can_be_empty (meanings types ds) (seq_of (continuation types cells k))
  pub complete : (n k : ℕ) → n < done → number_at states n ≡ Some k →
      AreMirrored (continuations_of types cells states) (moves (meanings types ds) (continuation types cells k)) (state_at auto n).labels (state_at auto n).texts
  pub current : AreMirrored (continuations_of types cells states) known (state_at auto done).labels (state_at auto done).texts
  pub fresh : (n : ℕ) → done < n → ((state_at auto n).labels ≡ []) × ((state_at auto n).texts ≡ [])

-- these moves are added to a state, after those that it has; states that they lead to are made
pub record AddsMoves (types : List Row) (ds : List TypeDef) (old_cells new_cells : List Cell) (old new : List ℕ) (old_auto new_auto : Automaton) (from : State) (ms : List Move) : Type 0 where
  pub cells_added : AddsCells types old_cells new_cells
  pub states_added : AddsStates old_cells new_cells old new
  pub aligned : length new_auto ≡ length new
  pub bounded : StaysBounded types ds old_cells new_cells
  pub compiled : AllByRecursion (λ (m : Move). IsOfState types m.content × IsOfState types m.rest) ms → (known : List Move) →
      AreCompiled types ds old_cells old old_auto (state_number from) known → AreCompiled types ds new_cells new new_auto (state_number from) (known ++ ms)

-- all states have their moves
pub record AreAllCompiled (types : List Row) (ds : List TypeDef) (old_cells new_cells : List Cell) (old new : List ℕ) (auto : Automaton) : Type 0 where
  pub cells_added : AddsCells types old_cells new_cells
  pub states_added : AddsStates old_cells new_cells old new
  pub bounded : StaysBounded types ds old_cells new_cells
  pub compiled : AreCompiled types ds new_cells new auto (length new) []

-- the move that was found is on a text
abbrev pub is_on_text : List Row → Found → Bool
is_on_text types f = is_text (move_of (tree_at types f.node) []).kind

-- which moves of a continuation are on texts, in order
abbrev pub move_sorts : List Row → List TypeDef → List Tree → List Bool
move_sorts types ds K = sorts_of (map head_of (moves (meanings types ds) K))

-- the first states have rows, which say which of their moves are on texts
pub record AreSorted (types : List Row) (ds : List TypeDef) (cells : List Cell) (states : List ℕ) (rows : List (List Bool)) (done : ℕ) : Type 0 where
  pub count : length rows ≡ done
  pub right : (n k : ℕ) → n < done → number_at states n ≡ Some k → row_at rows n ≡ move_sorts types ds (continuation types cells k)
