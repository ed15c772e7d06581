use Rattle.std.proofs.Common.{rules}
use Rattle.xd_proof_make.proofs.KeepsKnownLemmas.{none_push}
use Rattle.xd_proof_make.proofs.states.nothing_known.Goals as goal

pub loop-preserved : goal.loop-preserved
loop-preserved c = record { sized = search rules; known = λ p k. none_push p k c.loop.states.items c.push.new.self.items c.in_ok-push.ensures.items (c.loop.invariant.known p k) }
