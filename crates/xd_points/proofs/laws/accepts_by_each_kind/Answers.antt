use Rattle.xd_points.proofs.FirstRunLaw.{accepts_by_each_kind}
use Rattle.xd_points.proofs.laws.accepts_by_each_kind.Goals as goal

pub returns : goal.returns
returns c = accepts_by_each_kind
