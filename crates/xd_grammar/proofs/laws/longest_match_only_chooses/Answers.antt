use Rattle.xd_grammar.proofs.ErasedLemmas.{longest_match_only_chooses}
use Rattle.xd_grammar.proofs.laws.longest_match_only_chooses.Goals as goal

pub returns : goal.returns
returns c = longest_match_only_chooses
