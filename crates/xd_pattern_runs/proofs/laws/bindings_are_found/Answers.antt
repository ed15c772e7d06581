use Rattle.xd_pattern_runs.proofs.TheLaws.{given_once, given_never}
use Rattle.xd_pattern_runs.proofs.laws.bindings_are_found.Goals as goal

pub returns : goal.returns
returns c = record { once = given_once; never = given_never }
