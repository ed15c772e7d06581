use Rattle.xd_same_types.proofs.IsMeaningLemmas.{names_settle}
use Rattle.xd_same_types.proofs.law.names_settle.Goals as goal

pub returns : goal.returns
returns c = names_settle
