use Rattle.xd_laws.proofs.OneLines.{lines_are_one}
use Rattle.xd_laws.proofs.lines_are_one.Goals as goal

pub returns : goal.returns
returns c = lines_are_one
