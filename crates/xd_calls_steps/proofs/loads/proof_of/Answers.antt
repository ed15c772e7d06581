use Rattle.xd_proof.proofs.GoalLemmas.{goals_belong}
use Rattle.xd_calls_steps.proofs.loads.proof_of.Goals as goal

pub returns : goal.returns
returns c = let h = c.in_ok-proof.ensures.step in goals_belong c.load_proof.new.sound.types c.in_ok-proof.proof h.2.0 h.2.2
