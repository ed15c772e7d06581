use Rattle.xd_goals.proofs.IsWalkedLemmas.{reached}
use Rattle.xd_goals.proofs.settled.reach.Goals as goal

pub returns : goal.returns
returns c = reached c.args.found.now.keys c.insert_full.new.self.keys c.args.goal.number c.in_ok-insert_full.ensures.keys
