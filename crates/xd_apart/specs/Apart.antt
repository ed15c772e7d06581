-- What separates two states of an automaton.
use Rattle.std.specs.Prelude.{◌≡◌, true, false}
use Rattle.xd_doc.specs.Document.{Document}
use Rattle.xd_auto.specs.declared.auto.State.{State}
use Rattle.xd_auto.specs.Automaton.{Automaton, accepts}

-- the left state accepts the document, and the right one doesn't
pub record IsApart (a : Automaton) (left right : State) (d : Document) : Type 0 where
  pub accepted : accepts a d left ≡ true
  pub refused : accepts a d right ≡ false
