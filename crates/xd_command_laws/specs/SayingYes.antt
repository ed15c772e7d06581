-- That `stream` and `fits` say yes of the same documents.
use Rattle.std.specs.Prelude.{◌≡◌, ◌↔◌, ℕ, List, Some}
use Rattle.xd_command_steps.specs.Output.{Output, yes}
use Rattle.xd_command_steps.specs.Laws.{Texts}
use Rattle.xd_command.specs.declared.command.Command.TheVariants.{Fits, Stream}
use Rattle.xd_command.specs.Answer.{Answers}

-- Of the same texts, one says yes exactly where the other does, whatever the pieces.
abbrev pub SayYesAlike : Type 0
SayYesAlike = (file name document : List ℕ) (piece : ℕ) (texts : Texts) (o p : Output) →
    Answers (Stream file name document piece) (Some texts) ⊥ o → Answers (Fits file name document) (Some texts) ⊥ p → (o ≡ yes) ↔ (p ≡ yes)
