use Rattle.xd_variables.proofs.SeenOnce.{variables_once}
use Rattle.xd_variables.proofs.laws.variables_are_one.Goals as goal

pub returns : goal.returns
returns c = variables_once
