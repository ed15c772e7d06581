use Rattle.xd_command_laws.proofs.SayingYes.{say_yes_alike}
use Rattle.xd_command_laws.proofs.stream_agrees_with_fits.Goals as goal

pub returns : goal.returns
returns c = say_yes_alike
