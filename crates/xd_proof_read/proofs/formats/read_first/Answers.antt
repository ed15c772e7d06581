use Rattle.xd_proof_read.proofs.GoalFacts.{texts}
use Rattle.xd_proof_read.proofs.FormatFacts.{first_tells}
use Rattle.xd_proof_read.proofs.formats.read_first.Goals as goal

pub returns-clause-bad : goal.returns-clause-bad
returns-clause-bad c = first_tells c.args.sound.now (texts c.args.lines.now) c.read_goals.result c.read_goals.ensures.bad
