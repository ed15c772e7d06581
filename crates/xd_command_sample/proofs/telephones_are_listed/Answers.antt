use Rattle.xd_command_sample.proofs.Inputs.{persons_fit}
use Rattle.xd_command_sample.proofs.Runs.{telephones_mean}
use Rattle.xd_command_sample.proofs.telephones_are_listed.Goals as goal

pub returns : goal.returns
returns c = record { inputs = persons_fit; values = telephones_mean }
