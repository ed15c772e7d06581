use Rattle.xd_laws.proofs.TheLaws.{fuel_left}
use Rattle.xd_laws.proofs.fuel_is_left.Goals as goal

pub returns : goal.returns
returns c = fuel_left
