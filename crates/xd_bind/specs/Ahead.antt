-- Where the items of a variable may begin.
use Rattle.std.specs.Prelude.{◌≡◌, ℕ, Bool, true, false, List, slice_get, Some}
use Rattle.xd_doc.specs.ClassForms.{HasLabel, HasText}
use Rattle.xd_auto.specs.declared.auto.State.{State}
use Rattle.xd_auto.specs.declared.auto.LabelMove.{LabelMove}
use Rattle.xd_auto.specs.declared.auto.TextMove.{TextMove}
use Rattle.xd_auto.specs.Automaton.{Automaton, IsState, moves_at}
use Rattle.xd_auto.specs.Traces.{Owned}

-- Moves that don't belong to the variable lead from the start to the state, and what they leave
-- aside can be completed without it.
pub data IsAhead (a : Automaton) (b : Owned) (free : State → Bool) (start : State) : State → Type 0 where
  is_start : IsAhead a b free start start
  past_text : (s : State) (m : TextMove) (n : ℕ) → IsAhead a b free start s → slice_get (moves_at a s).texts n ≡ Some m → b.text s n ≡ false → IsAhead a b free start m.rest
  past_element : (s : State) (m : LabelMove) (n : ℕ) → IsAhead a b free start s → slice_get (moves_at a s).labels n ≡ Some m → b.element s n ≡ false
      → free m.content ≡ true → IsAhead a b free start m.rest
  in_content : (s : State) (m : LabelMove) (n : ℕ) → IsAhead a b free start s → slice_get (moves_at a s).labels n ≡ Some m → b.element s n ≡ false
      → free m.rest ≡ true → IsAhead a b free start m.content

-- the states are listed that lie ahead of the start
pub record ListsAhead (a : Automaton) (b : Owned) (free : State → Bool) (start : State) (ahead : List State) : Type 0 where
  pub sound : (s : State) (i : ℕ) → slice_get ahead i ≡ Some s → IsAhead a b free start s
  pub complete : (s : State) → IsAhead a b free start s → (i : ℕ) × (slice_get ahead i ≡ Some s)

-- exactly the states ahead of the start are listed, and their moves that don't belong to the
-- variable have labels
pub record IsSearched (a : Automaton) (b : Owned) (start : State) (free : State → Bool) (order : List State) : Type 0 where
  pub states : (i : ℕ) (s : State) → slice_get order i ≡ Some s → IsState a s
  pub lists : ListsAhead a b free start order
  pub filled : (s : State) (m : LabelMove) (n : ℕ) → IsAhead a b free start s → slice_get (moves_at a s).labels n ≡ Some m → b.element s n ≡ false → HasLabel m.class
  pub filled_texts : (s : State) (m : TextMove) (n : ℕ) → IsAhead a b free start s → slice_get (moves_at a s).texts n ≡ Some m → b.text s n ≡ false → HasText m.words
