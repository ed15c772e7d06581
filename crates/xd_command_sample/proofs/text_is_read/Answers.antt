use Rattle.xd_command_sample.proofs.TheText as text
use Rattle.xd_command_sample.proofs.text_is_read.Goals as goal

pub returns : goal.returns
returns c = text.text_is_read
