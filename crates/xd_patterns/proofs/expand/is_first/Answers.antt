use Rattle.xd_patterns.proofs.HasFoundLemmas.{enters}
use Rattle.xd_patterns.proofs.expand.is_first.Goals as goal

pub returns : goal.returns
returns c = enters c.args.seen.now.keys c.insert_full.new.self.keys c.args.task c.in_ok-is_new.is_new c.in_ok-is_new.ensures.keys c.in_ok-is_new.ensures.added
