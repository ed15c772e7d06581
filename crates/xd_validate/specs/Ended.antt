-- How a document ends that is read in pieces.
use Rattle.std.specs.Prelude.{ℕ, List, Option}
use Rattle.xd_auto.specs.Automaton.{Automaton}
use Rattle.xd_auto.specs.declared.auto.State.{State}
use Rattle.xd_stream.specs.Fed.{StopsAs}
use Rattle.xd_stream.specs.StopByState.{SpellsAccepted}
use Rattle.xd_validate.specs.Reading.{IsAllOf}
use Rattle.xd_validate.specs.declared.reading.Ended.{Ended}
use Rattle.xd_validate.specs.declared.reading.Ended.TheVariants.{Accepted, Stopped, Unread}
use Rattle.xd_validate.specs.declared.reading.Broken.{Broken}
use Rattle.xd_validate.specs.declared.reading.Broken.TheVariants as broken

-- all the bytes that are left spell what the state accepts, or stop so; or a count of faults rose
abbrev pub EndsAs : Automaton → State → (left : Option (List ℕ)) → (rose : Type 0) → Ended → Type 0
EndsAs a s left rose Accepted = (bytes : List ℕ) × IsAllOf left bytes × SpellsAccepted a s bytes
EndsAs a s left rose (Stopped e) = (bytes : List ℕ) × IsAllOf left bytes × StopsAs a s bytes e
EndsAs a s left rose Unread = rose

abbrev pub IsBroken : Automaton → State → (left : Option (List ℕ)) → (rose : Type 0) → Broken → Type 0
IsBroken a s left rose (broken.Stopped e) = (bytes : List ℕ) × IsAllOf left bytes × StopsAs a s bytes e
IsBroken a s left rose broken.Unread = rose
