-- Moves that belong to a variable, and that lead to copies.
use Rattle.std.specs.Prelude.{◌≡◌, ℕ, suc, ◌<◌, ◌≤◌, Bool, cond, List, [], ◌∷◌, ◌++◌, map, length}
use Rattle.xd_auto.specs.declared.auto.State.{State}
use Rattle.xd_auto.specs.declared.auto.LabelMove.{LabelMove}
use Rattle.xd_auto.specs.declared.auto.TextMove.{TextMove}
use Rattle.xd_auto.specs.Automaton.{Automaton, StateMoves, moves_at}
use Rattle.xd_auto.specs.Traces.{Owned}

-- the elements whose numbers pass the test
abbrev pub chosen : {X : Type 0} → (ℕ → Bool) → List X → List X
chosen p [] = []
chosen p (x ∷ xs) = cond (p 0) (x ∷ chosen (λ n. p (suc n)) xs) (chosen (λ n. p (suc n)) xs)

-- the move that leads to copies
abbrev pub label_onto : (State → State) → (State → State) → LabelMove → LabelMove
label_onto contents rests m = record { class = m.class; content = contents m.content; rest = rests m.rest }

abbrev pub text_onto : (State → State) → TextMove → TextMove
text_onto rests m = record { words = m.words; rest = rests m.rest }

-- the moves that belong to the variable, onto copies
abbrev pub owned_labels : Owned → (State → State) → (State → State) → State → StateMoves → List LabelMove
owned_labels b contents rests s moves = map (label_onto contents rests) (chosen (b.element s) moves.labels)

abbrev pub owned_texts : Owned → (State → State) → State → StateMoves → List TextMove
owned_texts b rests s moves = map (text_onto rests) (chosen (b.text s) moves.texts)

-- these after old moves
abbrev pub with_owned : Owned → (State → State) → (State → State) → State → StateMoves → StateMoves → StateMoves
with_owned b contents rests s moves old =
    record { last = old.last; labels = old.labels ++ owned_labels b contents rests s moves; texts = old.texts ++ owned_texts b rests s moves }

abbrev pub owned_moves : Owned → (State → State) → (State → State) → State → StateMoves → Bool → StateMoves
owned_moves b contents rests s moves last =
    record { last = last; labels = owned_labels b contents rests s moves; texts = owned_texts b rests s moves }

-- no state went, and each of the first n has the moves that it had
pub record StaysBelow (n : ℕ) (old new : Automaton) : Type 0 where
  pub states : length old ≤ length new
  pub moves : (s : State) → s.number < n → moves_at new s ≡ moves_at old s
