use Rattle.xd_laws.proofs.LeastLines.{small_lines_are_least}
use Rattle.xd_laws.proofs.small_lines_are_least.Goals as goal

pub returns : goal.returns
returns c = small_lines_are_least
