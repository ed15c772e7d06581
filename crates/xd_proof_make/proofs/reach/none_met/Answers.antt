use Rattle.std.proofs.Common.{rules}
use Rattle.xd_proof_make.proofs.ReadCaseLemmas.{none-push}
use Rattle.xd_proof_make.proofs.reach.none_met.Goals as goal

pub loop-preserved : goal.loop-preserved
loop-preserved c = record { sized = search rules; none = none-push c.loop.numbers.items c.push.new.self.items c.in_ok-push.ensures.items c.loop.invariant.none }
