use Rattle.xd_pattern_runs.proofs.TheLaws.{first_run_is_first_match}
use Rattle.xd_pattern_runs.proofs.laws.first_run_is_first_match.Goals as goal

pub returns : goal.returns
returns c = first_run_is_first_match
