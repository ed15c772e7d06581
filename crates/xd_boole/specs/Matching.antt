-- Moves that match a move.
use Rattle.std.specs.Prelude.{◌≡◌, ℕ, Bool, true, ◌&&◌, ◌||◌, List, length, take}
use Rattle.std.specs.List.{list_any}
use Rattle.xd_auto.specs.declared.auto.State.{State}
use Rattle.xd_auto.specs.Automaton.{Automaton, LeadsBelow, StateMoves, moves_at}
use Rattle.xd_boole.specs.Groups.{AllPass, passes_at}

-- the moves of these numbers were put after others
pub record AddsThose {M : Type 0} (moves : List M) (numbers : List ℕ) (old new : List M) : Type 0 where
  pub taken : (t : M → Bool) → list_any t new ≡ (list_any t old || list_any (passes_at t moves) numbers)
  pub all : (t : M → Bool) → AllPass t old → AllPass t moves → AllPass t new

-- some of the moves has the name and passes the test
abbrev pub any_has : {M : Type 0} → (M → List ℕ → Bool) → List ℕ → (M → Bool) → List M → Bool
any_has has x t moves = list_any (λ m. has m x && t m) moves

-- each of the moves is among those of some state of the automaton, as far as tests of them tell
abbrev pub AreMovesIn : {M : Type 0} → (StateMoves → List M) → Automaton → List M → Type 0
AreMovesIn {M = M} moves_in a moves = (t : M → Bool) → ((s : State) → LeadsBelow (length a) (moves_at a s) → AllPass t (moves_in (moves_at a s))) → AllPass t moves

-- moves that on the names of a move tell what those of these states do
pub record AreMovesOf {M : Type 0} (has : M → List ℕ → Bool) (moves_in : StateMoves → List M) (a : Automaton) (step : M) (states : List State) (moves : List M) : Type 0 where
  pub taken : (x : List ℕ) → has step x ≡ true → (t : M → Bool) → any_has has x t moves ≡ list_any (λ s. any_has has x t (moves_in (moves_at a s))) states
  pub inside : AreMovesIn moves_in a moves

-- the same of those of these states and of the first moves of one more
pub record AreMovesBefore {M : Type 0} (has : M → List ℕ → Bool) (moves_in : StateMoves → List M) (a : Automaton) (step : M) (states : List State) (own : State) (place : ℕ) (moves : List M) : Type 0 where
  pub taken : (x : List ℕ) → has step x ≡ true → (t : M → Bool)
      → any_has has x t moves ≡ (list_any (λ s. any_has has x t (moves_in (moves_at a s))) states || any_has has x t (take place (moves_in (moves_at a own))))
  pub inside : AreMovesIn moves_in a moves
