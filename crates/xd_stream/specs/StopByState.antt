-- Documents that a state of an automaton accepts, as a set that bytes begin and spell.
use Rattle.std.specs.Prelude.{◌≡◌, ℕ, true, List}
use Rattle.xd_doc.specs.Document.{Document, is_proper}
use Rattle.xd_read.specs.Grammar.{Terminal}
use Rattle.xd_auto.specs.declared.auto.State.{State}
use Rattle.xd_auto.specs.Automaton.{Automaton, accepts}
use Rattle.xd_stream.specs.Stop.{BeginsOneOf, SpellsOneOf}

pub record IsAccepted (a : Automaton) (s : State) (d : Document) : Type 0 where
  pub proper : is_proper d ≡ true
  pub accepted : accepts a d s ≡ true

abbrev pub BeginsAccepted : Automaton → State → List Terminal → Type 0
BeginsAccepted a s ts = BeginsOneOf (IsAccepted a s) ts

abbrev pub SpellsAccepted : Automaton → State → List ℕ → Type 0
SpellsAccepted a s bytes = SpellsOneOf (IsAccepted a s) bytes
