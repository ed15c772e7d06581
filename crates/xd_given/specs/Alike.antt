-- States whose moves tell that they give each variable nothing, or all that they take.
use Rattle.std.specs.Prelude.{◌≡◌, ℕ, ◌+◌, ◌<◌, ◌&&◌, Bool, true, false, not, cond, List, [], ◌∷◌, Option, slice_get, Some, None}
use Rattle.xd_auto.specs.declared.auto.State.{State}
use Rattle.xd_auto.specs.declared.auto.LabelMove.{LabelMove}
use Rattle.xd_auto.specs.declared.auto.TextMove.{TextMove}
use Rattle.xd_auto.specs.declared.leading.Ends.{Ends}
use Rattle.xd_auto.specs.Automaton.{Automaton, moves_at}
use Rattle.xd_auto.specs.Leading.{label_ends, text_ends}
use Rattle.xd_auto.specs.Traces.{Owned}
use Rattle.xd_given.specs.Owning.{owns_first}

-- whether moves belong to the variable, or don't
abbrev pub is_side : Bool → Bool → Bool
is_side own v = cond own v (not v)

-- whether a state of the set begins with moves of the variable, or with none
abbrev pub begins : Owned → (State → Bool) → Bool → State → Bool
begins b set first s = set s && is_side first (owns_first b s)

-- the content, where there is one, begins with none
abbrev pub begins_inside : Owned → (State → Bool) → Option State → Bool
begins_inside b set None = true
begins_inside b set (Some s) = begins b set false s

-- whether a move is the variable's where the state's first one is, what follows begins so, and the
-- content with none; both in the set
abbrev pub alike_move : Owned → (State → Bool) → State → Bool → Ends → Bool
alike_move b set s own e = is_side (owns_first b s) own && (begins_inside b set e.inside && begins b set (owns_first b s) e.behind)

-- all moves of the state are such
pub record IsAlike (a : Automaton) (b : Owned) (set : State → Bool) (s : State) : Type 0 where
  pub labels : (n : ℕ) (m : LabelMove) → slice_get (moves_at a s).labels n ≡ Some m → alike_move b set s (b.element s n) (label_ends m) ≡ true
  pub texts : (n : ℕ) (m : TextMove) → slice_get (moves_at a s).texts n ≡ Some m → alike_move b set s (b.text s n) (text_ends m) ≡ true

-- for each variable
abbrev pub IsAlikeFor : Automaton → (ℕ → Owned) → ℕ → (State → Bool) → State → Type 0
IsAlikeFor a owned count set s = (x : ℕ) → x < count → IsAlike a (owned x) set s

-- of each state of the set
abbrev pub IsAlikeSet : Automaton → (ℕ → Owned) → ℕ → (State → Bool) → Type 0
IsAlikeSet a owned count set = (s : State) → set s ≡ true → IsAlikeFor a owned count set s

-- each state of the first set is in the second
abbrev pub IsIn : (State → Bool) → (State → Bool) → Type 0
IsIn one two = (s : State) → one s ≡ true → two s ≡ true

-- how many are marked
abbrev pub marked_count : List Bool → ℕ
marked_count [] = 0
marked_count (m ∷ marks) = cond m 1 0 + marked_count marks
