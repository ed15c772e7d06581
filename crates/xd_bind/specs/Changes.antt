-- States that get more moves.
use Rattle.std.specs.Prelude.{◌≡◌, ◌≢◌, List, ◌++◌, length}
use Rattle.xd_auto.specs.declared.auto.State.{State}
use Rattle.xd_auto.specs.declared.auto.LabelMove.{LabelMove}
use Rattle.xd_auto.specs.declared.auto.TextMove.{TextMove}
use Rattle.xd_auto.specs.Automaton.{Automaton, StateMoves, moves_at}

-- these after old moves
abbrev pub with_labels : List LabelMove → StateMoves → StateMoves
with_labels more old = record { last = old.last; labels = old.labels ++ more; texts = old.texts }

abbrev pub with_texts : List TextMove → StateMoves → StateMoves
with_texts more old = record { last = old.last; labels = old.labels; texts = old.texts ++ more }

-- one state has these moves now, and each other state those that it had
pub record IsChange (old new : Automaton) (at : State) (moves : StateMoves) : Type 0 where
  pub states : length new ≡ length old
  pub here : moves_at new at ≡ moves
  pub others : (s : State) → s.number ≢ at.number → moves_at new s ≡ moves_at old s
