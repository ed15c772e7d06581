use Rattle.xd_proof.proofs.KeywordLemmas.{no_number, number_behind}
use Rattle.xd_proof.proofs.keywords.read_numbered.Goals as goal

pub returns-in_default : goal.returns-in_default
returns-in_default c = no_number _ _ c.in_default.ensures

pub returns : goal.returns
returns c = number_behind c.read_number.result _ _ _ c.in-Some.ensures c.read_number.ensures
