use Rattle.std.proofs.Common.{subst}
use Rattle.xd_proof.specs.Kept.{IsProof}
use Rattle.xd_proof.proofs.GoalLemmas.{goals_are}
use Rattle.xd_proof.proofs.proof.Proof.goals.Goals as goal

pub returns-clause-goals : goal.returns-clause-goals
returns-clause-goals c = λ types b. goals_are types c.args.self.now b (subst IsProof c.self.view_is c.self.invariant).trees
