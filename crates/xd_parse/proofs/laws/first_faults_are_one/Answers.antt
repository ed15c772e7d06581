use Rattle.xd_parse.proofs.FirstFaults.{first_faults_are_one}
use Rattle.xd_parse.proofs.laws.first_faults_are_one.Goals as goal

pub returns : goal.returns
returns c = first_faults_are_one
