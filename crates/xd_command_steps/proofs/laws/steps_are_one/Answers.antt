use Rattle.xd_base.specs.Outside.{HasRisen}
use Rattle.xd_command_steps.proofs.OneStep as law
use Rattle.xd_command_steps.proofs.laws.steps_are_one.Goals as goal

pub returns : goal.returns
returns c = record { one = law.steps_are_one; counts = λ before after. law.counts_tell_nothing (HasRisen before after) }
