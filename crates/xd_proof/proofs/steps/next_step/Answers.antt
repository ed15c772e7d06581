use Rattle.std.proofs.Common.{arith}
use Rattle.xd_proof.proofs.StepLemmas.{next_is}
use Rattle.xd_proof.proofs.steps.next_step.Goals as goal

pub returns : goal.returns
returns c = next_is c.first_step.result c.args.words.now _ c.args.at c.args.wanted c.split_at.ensures.back (let h = c.if-wanted-eq0.false in omega (arith, h)) c.first_step.ensures
