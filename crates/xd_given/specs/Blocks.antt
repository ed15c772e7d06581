-- States of the blocks of a variable.
use Rattle.std.specs.Prelude.{◌≡◌, ℕ, ◌+◌, ◌<◌, ◌≤◌, ◌&&◌, Bool, true, false, List, length, slice_index_or, Option, Some, None}
use Rattle.xd_doc.specs.Document.{Document}
use Rattle.xd_auto.specs.declared.auto.State.{State}
use Rattle.xd_auto.specs.Automaton.{Automaton, IsState, accepts, moves_at}
use Rattle.xd_auto.specs.Traces.{Owned}
use Rattle.xd_points.specs.declared.patterns.PatternStates.{PatternStates}
use Rattle.xd_points.specs.declared.table.PointTable.{PointTable}
use Rattle.xd_points.specs.Tables.{is_left, left_of, pattern_of, point_count, point_means}
use Rattle.xd_given.specs.Chosen.{owned_moves, with_owned}
use Rattle.xd_given.specs.Owning.{owns_first}

-- the state for a point, from a list by the points' numbers
abbrev pub there : List State → State → State
there states s = slice_index_or states s.number (record { number = 0 })

-- for each point a state that accepts exactly what the point means
pub record ArePlaces (a : Automaton) (p : PatternStates) (t : PointTable) (places : List State) : Type 0 where
  pub count : length places ≡ point_count t
  pub belong : (s : State) → s.number < point_count t → IsState a (there places s)
  pub means : (s : State) (d : Document) → s.number < point_count t → accepts a d (there places s) ≡ point_means a p t s d

-- the variable is given all that comes at the point, and that is what the left accepts
abbrev pub is_tail : PatternStates → PointTable → Owned → State → Bool
is_tail p t b s = is_left p t s && owns_first b (pattern_of t s)

-- the state, or another one where there is none
abbrev pub state_or : State → Option State → State
state_or s None = s
state_or s (Some q) = q

-- the state so many further on
abbrev pub onward : ℕ → State → State
onward by s = record { number = by + s.number }

-- the state of a point's block
pub record IsBlockFor (p : PatternStates) (t : PointTable) (b : Owned) (base : ℕ) (s v : State) : Type 0 where
  pub tail : is_tail p t b s ≡ true → v ≡ left_of t s
  pub other : is_tail p t b s ≡ false → v ≡ onward base s

-- for each point a state of the variable's block: the left, where all that comes belongs to the
-- variable; and else one from the base on
pub record AreBlocks (p : PatternStates) (t : PointTable) (b : Owned) (base : ℕ) (blocks : List State) : Type 0 where
  pub count : length blocks ≡ point_count t
  pub tail : (s : State) → s.number < point_count t → is_tail p t b s ≡ true → there blocks s ≡ left_of t s
  pub other : (s : State) → s.number < point_count t → is_tail p t b s ≡ false → there blocks s ≡ onward base s

-- the first states from the base on, so many, have the variable's moves of their points too, to the
-- contents' places and the blocks' states
pub record IsFilledTo (b : Owned) (drawing : Automaton) (places blocks : List State) (base count : ℕ) (old new : Automaton) : Type 0 where
  pub states : length new ≡ length old
  pub below : (s : State) → s.number < base → moves_at new s ≡ moves_at old s
  pub filled : (s : State) → s.number < count → moves_at new (onward base s) ≡ with_owned b (there places) (there blocks) s (moves_at drawing s) (moves_at old (onward base s))
  pub waiting : (s : State) → count ≤ s.number → moves_at new (onward base s) ≡ moves_at old (onward base s)

-- they have just these, and accept the empty document where the point can be completed without the
-- variable
abbrev pub AreFilled : Owned → Automaton → List State → List State → (State → Bool) → ℕ → ℕ → Automaton → Type 0
AreFilled b drawing places blocks free base count made =
    (s : State) → s.number < count → moves_at made (onward base s) ≡ owned_moves b (there places) (there blocks) s (moves_at drawing s) (free s)
