use Rattle.xd_patterns.proofs.HasFoundLemmas.{has_found}
use Rattle.xd_patterns.proofs.expand.keep.Goals as goal

pub returns : goal.returns
returns c = has_found c.args.found.now.keys c.insert_full.new.self.keys c.args.item c.in_ok-insert_full.ensures.keys
