use Rattle.std.proofs.Common.{◌≡◌, true, subst}
use Rattle.xd_proof_make.specs.Met.{IsStepTo}
use Rattle.xd_proof_make.proofs.reach.meet_step.Goals as goal

pub returns-in-Content-clause-only : goal.returns-in-Content-clause-only
returns-in-Content-clause-only c = λ p h k. c.meet.ensures.only p (subst (IsStepTo (λ g. p g ≡ true)) c.in-Content.is h) k

pub returns-in-Rest-clause-only : goal.returns-in-Rest-clause-only
returns-in-Rest-clause-only c = λ p h k. c.meet-in-Rest.ensures.only p (subst (IsStepTo (λ g. p g ≡ true)) c.in-Rest.is h) k
