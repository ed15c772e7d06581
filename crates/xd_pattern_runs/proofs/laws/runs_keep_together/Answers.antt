use Rattle.xd_pattern_runs.proofs.TogetherLaw.{runs_keep_together}
use Rattle.xd_pattern_runs.proofs.laws.runs_keep_together.Goals as goal

pub returns : goal.returns
returns c = runs_keep_together
