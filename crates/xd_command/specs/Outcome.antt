-- How the status and what is written follow from the words, from the shelf and from the sink.
use Rattle.std.specs.Prelude.{◌≡◌, ℕ, ◌⊎◌, List, [], Option}
use Rattle.xd_base.specs.Outside.{HasGrown}
use Rattle.xd_command.specs.declared.command.Command.{Command}
use Rattle.xd_command.specs.Answer.{IsAnswer}
use Rattle.xd_command_steps.specs.Output.{Output, IsSent}
use Rattle.xd_command_steps.specs.Texts.{Holding}

-- Nothing is written, since memory ran out; or an output that the words have is sent.
abbrev pub IsOutcome :
    Option Command → Holding → (shelf_rose sink_rose : Type 0) → (before after : Option (List ℕ)) → ℕ → Type 0
IsOutcome command holds shelf_rose sink_rose before after code =
    ((code ≡ 5) × HasGrown before after [])
    ⊎ ((o : Output) × IsAnswer command holds shelf_rose o × IsSent o sink_rose before after code)
