-- Moves of states that belong to the same variables.
use Rattle.std.specs.Prelude.{◌≡◌, ℕ, ◌<◌, Bool, true, false, List, slice_get, Some}
use Rattle.std.specs.List.{Contains}
use Rattle.xd_auto.specs.declared.auto.State.{State}
use Rattle.xd_auto.specs.declared.kind.MoveKind.{MoveKind}
use Rattle.xd_auto.specs.declared.leading.Ends.{Ends}
use Rattle.xd_auto.specs.Traces.{Owned}
use Rattle.xd_bind.specs.Owning.{is_owned}
use Rattle.xd_given.specs.declared.alike.Moves.{Moves}
use Rattle.xd_given.specs.declared.alike.Moves.TheVariants.{First, One, Nothing}
use Rattle.xd_given.specs.Alike.{alike_move}
use Rattle.xd_given.specs.Owning.{owns_first}

-- one of the moves belongs to the variable
abbrev pub owns : Owned → Moves → Bool
owns b (First s) = owns_first b s
owns b (One s kind n) = is_owned b kind s n
owns b Nothing = false

-- each of so many variables has one of both moves, or of neither
abbrev pub BelongAlike : (ℕ → Owned) → ℕ → Moves → Moves → Type 0
BelongAlike owned count one two = (x : ℕ) → x < count → owns (owned x) one ≡ owns (owned x) two

-- so does each of these that is one of so many
abbrev pub TheseBelongAlike : (ℕ → Owned) → List ℕ → ℕ → Moves → Moves → Type 0
TheseBelongAlike owned xs count one two = (x : ℕ) → x < count → Contains xs x → owns (owned x) one ≡ owns (owned x) two

-- a move of a kind is alike for each of so many variables
abbrev pub IsAlikeMove : (ℕ → Owned) → ℕ → (State → Bool) → State → MoveKind → ℕ → Ends → Type 0
IsAlikeMove owned count set s kind n e = (x : ℕ) → x < count → alike_move (owned x) set s (is_owned (owned x) kind s n) e ≡ true

-- each of these is
abbrev pub AreAlikeMoves : {M : Type 0} → (M → Ends) → (ℕ → Owned) → ℕ → (State → Bool) → State → MoveKind → List M → Type 0
AreAlikeMoves {M} ends owned count set s kind moves = (n : ℕ) (m : M) → slice_get moves n ≡ Some m → IsAlikeMove owned count set s kind n (ends m)
