use Rattle.xd_patterns.proofs.ServesLemmas.{serves_stays}
use Rattle.xd_patterns.proofs.compiler.compilers_stay.Goals as goal

pub returns : goal.returns
returns c = serves_stays
