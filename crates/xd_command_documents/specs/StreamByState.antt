-- What `stream` answers, by a state that accepts what fits the type.
use Rattle.std.specs.Prelude.{ℕ, List}
use Rattle.xd_auto.specs.Automaton.{Automaton}
use Rattle.xd_auto.specs.declared.auto.State.{State}
use Rattle.xd_stream.specs.StopByState.{IsAccepted}
use Rattle.xd_command_steps.specs.Output.{Output}
use Rattle.xd_command_steps.specs.Step.{Step}
use Rattle.xd_command_steps.specs.Texts.{Holding, EndsAtText, IsText, document_limit}
use Rattle.xd_command_documents.specs.Stream.{TellsStop}

-- the same by what the state accepts
abbrev pub StreamsByState : Automaton → State → Holding → (rose : Type 0) → (document : List ℕ) → Output → Type 0
StreamsByState a s holds rose document o = Step (EndsAtText holds rose document document_limit) (IsText holds document document_limit) (TellsStop (IsAccepted a s)) o
