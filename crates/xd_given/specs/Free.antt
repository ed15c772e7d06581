-- Which states of an automaton can be completed without a variable.
use Rattle.std.specs.Prelude.{◌≡◌, ◌⊎◌, ℕ, Bool, true, false, not, ◌&&◌, List, Option, slice_get, Some, None}
use Rattle.xd_doc.specs.ClassForms.{HasLabel, HasText}
use Rattle.xd_auto.specs.declared.auto.State.{State}
use Rattle.xd_auto.specs.declared.auto.LabelMove.{LabelMove}
use Rattle.xd_auto.specs.declared.auto.TextMove.{TextMove}
use Rattle.xd_auto.specs.declared.leading.Ends.{Ends}
use Rattle.xd_auto.specs.Automaton.{Automaton, IsState, moves_at}
use Rattle.xd_auto.specs.Leading.{LabelFilled, TextFilled, label_ends, text_ends}
use Rattle.xd_auto.specs.Traces.{Owned}

-- the state can stop, or a move of it that doesn't belong to the variable leads to states that can
-- be completed without it
pub data CanFinish (a : Automaton) (b : Owned) (stops : State → Bool) : State → Type 0 where
  at_once : (s : State) → stops s ≡ true → CanFinish a b stops s
  by_text : (s : State) (m : TextMove) (n : ℕ) → slice_get (moves_at a s).texts n ≡ Some m → b.text s n ≡ false → HasText m.words → CanFinish a b stops m.rest → CanFinish a b stops s
  by_element : (s : State) (m : LabelMove) (n : ℕ) → slice_get (moves_at a s).labels n ≡ Some m → b.element s n ≡ false → HasLabel m.class → CanFinish a b stops m.content → CanFinish a b stops m.rest
      → CanFinish a b stops s

-- the state, where there is one, is in the set
abbrev pub inside_in : (State → Bool) → Option State → Bool
inside_in set None = true
inside_in set (Some s) = set s

-- a move doesn't belong to the variable, and leads to states of the set
abbrev pub goes_free : (ℕ → Bool) → (State → Bool) → ℕ → Ends → Bool
goes_free owned set n e = inside_in set e.inside && (set e.behind && not (owned n))

-- some move of a kind does
pub record GoesOnBy {M : Type 0} (Filled : M → Type 0) (ends : M → Ends) (owned : ℕ → Bool) (set : State → Bool) (moves : List M) : Type 0 where
  pub number : ℕ
  pub move : M
  pub there : slice_get moves number ≡ Some move
  pub filled : Filled move
  pub goes : goes_free owned set number (ends move) ≡ true

-- none does
abbrev pub NoneGoesOn : {M : Type 0} → (M → Ends) → (ℕ → Bool) → (State → Bool) → List M → Type 0
NoneGoesOn {M} ends owned set moves = (n : ℕ) (m : M) → slice_get moves n ≡ Some m → goes_free owned set n (ends m) ≡ false

-- some move of the state does
abbrev pub GoesOn : Automaton → Owned → (State → Bool) → State → Type 0
GoesOn a b set s = GoesOnBy LabelFilled label_ends (b.element s) set (moves_at a s).labels ⊎ GoesOnBy TextFilled text_ends (b.text s) set (moves_at a s).texts

-- none does
pub record GoesNowhere (a : Automaton) (b : Owned) (set : State → Bool) (s : State) : Type 0 where
  pub texts : NoneGoesOn text_ends (b.text s) set (moves_at a s).texts
  pub labels : NoneGoesOn label_ends (b.element s) set (moves_at a s).labels

-- each state of the set can be completed
abbrev pub AreSound : Automaton → Owned → (State → Bool) → (State → Bool) → Type 0
AreSound a b stops set = (s : State) → set s ≡ true → CanFinish a b stops s

-- no move leads from another state to the set
abbrev pub AreSettled : Automaton → Owned → (State → Bool) → Type 0
AreSettled a b set = (s : State) → IsState a s → set s ≡ false → GoesNowhere a b set s

-- just the states that can be completed are in the set
pub record AreFree (a : Automaton) (b : Owned) (stops set : State → Bool) : Type 0 where
  pub sound : AreSound a b stops set
  pub stop : (s : State) → IsState a s → stops s ≡ true → set s ≡ true
  pub settled : AreSettled a b set
