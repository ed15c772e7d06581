use Rattle.xd_points.proofs.FirstRunLaw.{first_runs_are_preferred}
use Rattle.xd_points.proofs.laws.first_runs_are_preferred.Goals as goal

pub returns : goal.returns
returns c = first_runs_are_preferred
