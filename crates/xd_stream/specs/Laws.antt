-- Laws of where bytes stop, and of what they spell.
use Rattle.std.specs.Prelude.{◌≡◌, ℕ, true, List}
use Rattle.xd_doc.specs.Document.{Document, is_proper}
use Rattle.xd_read.specs.Reading.{BytesSpell}
use Rattle.xd_auto.specs.declared.auto.State.{State}
use Rattle.xd_auto.specs.Automaton.{Automaton}
use Rattle.xd_stream.specs.StopByState.{SpellsAccepted}
use Rattle.xd_stream.specs.Fed.{IsStop, StopsAs}
use Rattle.xd_stream.specs.declared.error.StreamError.{StreamError}

-- bytes stop at one place at most, and for one reason
abbrev pub StopsOnce : Type 0
StopsOnce = (a : Automaton) (s : State) (bytes : List ℕ) (e f : StreamError) → IsStop e → IsStop f → StopsAs a s bytes e → StopsAs a s bytes f → e ≡ f

-- bytes that spell an accepted document don't stop
abbrev pub AcceptedNeverStops : Type 0
AcceptedNeverStops = (a : Automaton) (s : State) (bytes : List ℕ) (e : StreamError) → IsStop e → SpellsAccepted a s bytes → ¬ (StopsAs a s bytes e)

-- a document that bytes spell has words as labels and UTF-8 texts
abbrev pub SpelledIsProper : Type 0
SpelledIsProper = (bytes : List ℕ) (d : Document) → BytesSpell bytes d → is_proper d ≡ true
