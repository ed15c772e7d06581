use Rattle.xd_proof_read.proofs.FormatFacts.{no_lines, no_title}
use Rattle.xd_proof_read.proofs.formats.read_lines.Goals as goal

pub returns-in_default-clause-bad : goal.returns-in_default-clause-bad
returns-in_default-clause-bad c = no_lines c.args.sound.now c.args.lines.now c.in_default.ensures.cases

pub returns-in-None-clause-bad : goal.returns-in-None-clause-bad
returns-in-None-clause-bad c = no_title c.args.sound.now c.args.lines.now _ _ (c.in-Some.ensures.cases).0 c.in-None.ensures
