use Rattle.xd_match.proofs.MatchersStay.{serves_stays}
use Rattle.xd_match.proofs.matchers.Matchers.stays_serving.Goals as goal

pub returns : goal.returns
returns c = serves_stays c.args.self.now
