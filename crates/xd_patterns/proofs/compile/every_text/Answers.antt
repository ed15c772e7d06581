use Rattle.xd_patterns.proofs.StateLemmas.{names_nothing}
use Rattle.xd_patterns.proofs.compile.every_text.Goals as goal

pub returns : goal.returns
returns c = names_nothing c.in_ok-words.words c.new.result.items c.new.ensures.items c.in_ok-words.ensures.texts c.in_ok-words.ensures.except
