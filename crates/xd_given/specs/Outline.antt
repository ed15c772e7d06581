-- From which points the items of a variable can begin, and which can be completed without it.
use Rattle.std.specs.Prelude.{◌≡◌, ℕ, ◌<◌, ◌≤◌, Bool, true, false, cond, is_some, List, Option, length}
use Rattle.xd_auto.specs.declared.auto.State.{State}
use Rattle.xd_auto.specs.Automaton.{Automaton, moves_at, no_moves}
use Rattle.xd_least.specs.Least.{known_of}
use Rattle.xd_least.specs.declared.document.LeastDocument.{LeastDocument}
use Rattle.xd_auto.specs.Traces.{Owned}
use Rattle.xd_points.specs.declared.patterns.PatternStates.{PatternStates}
use Rattle.xd_points.specs.declared.table.PointTable.{PointTable}
use Rattle.xd_points.specs.Tables.{is_left, left_of, pattern_of, point_count, points_of}
use Rattle.xd_given.specs.Free.{AreFree}
use Rattle.xd_given.specs.Owning.{owns_first, point_moves}
use Rattle.xd_bind.specs.Ahead.{IsSearched}

-- Whether the point, which means what its left accepts, can be completed without the variable.
-- Where the variable is given all, that is by the empty document alone; and else by any that is
-- known of the left.
abbrev pub leaf_free : Automaton → PointTable → Owned → List (Option LeastDocument) → State → Bool
leaf_free a t b known s = cond (owns_first b (pattern_of t s)) (moves_at a (left_of t s)).last (is_some (known_of known (left_of t s)))

-- The points of the first numbers, so many, have their moves; but one that means what its left
-- accepts has none.
pub record IsDrawnTo (p : PatternStates) (t : PointTable) (count : ℕ) (made : Automaton) : Type 0 where
  pub sized : length made ≡ length (points_of t)
  pub left : (s : State) → s.number < count → is_left p t s ≡ true → moves_at made s ≡ no_moves false
  pub other : (s : State) → s.number < count → is_left p t s ≡ false → moves_at made s ≡ moves_at (points_of t) s
  pub waiting : (s : State) → count ≤ s.number → moves_at made s ≡ moves_at (points_of t) s

-- all points have
abbrev pub IsDrawing : PatternStates → PointTable → Automaton → Type 0
IsDrawing p t made = IsDrawnTo p t (point_count t) made

-- whether the point can be completed with no more moves: where it means what its left accepts, by
-- that, and else by nothing
abbrev pub can_stop : PatternStates → PointTable → (State → Bool) → Automaton → State → Bool
can_stop p t leaf drawing s = cond (is_left p t s) (leaf s) (moves_at drawing s).last

-- just these points can be completed without the variable, and these lie ahead of the start
pub record IsOutline (p : PatternStates) (t : PointTable) (b : Owned) (leaf : State → Bool) (drawing : Automaton) (start : State) (free : State → Bool) (ahead : List State) : Type 0 where
  pub complete : AreFree drawing (point_moves t b) (can_stop p t leaf drawing) free
  pub searched : IsSearched drawing (point_moves t b) start free ahead
