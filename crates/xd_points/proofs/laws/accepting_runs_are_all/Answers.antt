use Rattle.xd_points.proofs.FirstRunLaw.{accepting_runs_are_all}
use Rattle.xd_points.proofs.laws.accepting_runs_are_all.Goals as goal

pub returns : goal.returns
returns c = accepting_runs_are_all
