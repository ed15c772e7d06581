use Rattle.xd_rec.proofs.Recursion.{one_list}
use Rattle.xd_rec.proofs.laws.faults_are_one.Goals as goal

pub returns : goal.returns
returns c = one_list
