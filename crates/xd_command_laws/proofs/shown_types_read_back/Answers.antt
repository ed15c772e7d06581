use Rattle.xd_command_laws.proofs.ReadingBack.{blocks_read_back, differences_read_back}
use Rattle.xd_command_laws.proofs.shown_types_read_back.Goals as goal

pub returns : goal.returns
returns c = record { differences = differences_read_back; blocks = blocks_read_back }
