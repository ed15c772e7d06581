use Rattle.xd_points.proofs.TableLemmas.{tables_stay}
use Rattle.xd_points.proofs.laws.tables_stay.Goals as goal

pub returns : goal.returns
returns c = tables_stay
