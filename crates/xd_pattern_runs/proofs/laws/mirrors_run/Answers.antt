use Rattle.xd_pattern_runs.proofs.MirrorsLaw.{mirrors_run}
use Rattle.xd_pattern_runs.proofs.laws.mirrors_run.Goals as goal

pub returns : goal.returns
returns c = mirrors_run
