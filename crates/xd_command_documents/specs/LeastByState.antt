-- What `least` answers, by a state that accepts what fits the type.
use Rattle.std.specs.Prelude.{◌≡◌, ◌⊎◌, true, false}
use Rattle.xd_auto.specs.Automaton.{Automaton, accepts}
use Rattle.xd_auto.specs.declared.auto.State.{State}
use Rattle.xd_doc.specs.Document.{Document, is_proper}
use Rattle.xd_doc.specs.Least.{IsLeast}
use Rattle.xd_least.specs.Least.{Accepts}
use Rattle.xd_command_steps.specs.Output.{Output, canonical, no}

-- a least document of the state is written; or it accepts none
abbrev pub TellsLeast : Automaton → State → Output → Type 0
TellsLeast a s o =
    ((d : Document) × (is_proper d ≡ true) × IsLeast (Accepts a s) d × (o ≡ canonical d))
    ⊎ (((d : Document) → accepts a d s ≡ false) × (o ≡ no))
