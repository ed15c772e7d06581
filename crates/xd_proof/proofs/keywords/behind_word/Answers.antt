use Rattle.xd_proof.proofs.KeywordLemmas.{no_word, word_behind}
use Rattle.xd_proof.proofs.keywords.behind_word.Goals as goal

pub returns-in_default : goal.returns-in_default
returns-in_default c = no_word _ _ c.in_default.ensures

pub returns : goal.returns
returns c = let h = c.in-Some.ensures in word_behind c.behind_same.result _ _ _ _ h.0 h.1 c.requires c.behind_same.ensures
