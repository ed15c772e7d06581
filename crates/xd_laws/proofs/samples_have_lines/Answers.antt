use Rattle.xd_laws.proofs.CheckSamples.{sample_lines}
use Rattle.xd_laws.proofs.samples_have_lines.Goals as goal

pub returns : goal.returns
returns c = sample_lines
