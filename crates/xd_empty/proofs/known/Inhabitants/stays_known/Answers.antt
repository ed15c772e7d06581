use Rattle.xd_empty.proofs.KnownLemmas.{stays_known}
use Rattle.xd_empty.proofs.known.Inhabitants.stays_known.Goals as goal

pub returns : goal.returns
returns c = stays_known c.args.self.now
