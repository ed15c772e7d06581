use Rattle.xd_points.proofs.StayLaws.{serving_stays}
use Rattle.xd_points.proofs.laws.serving_stays.Goals as goal

pub returns : goal.returns
returns c = serving_stays
