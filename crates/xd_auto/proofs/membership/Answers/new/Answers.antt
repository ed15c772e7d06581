use Rattle.xd_auto.proofs.KeepsAnswerLemmas.{nothing_kept}
use Rattle.xd_auto.proofs.membership.Answers.new.Goals as goal

pub returns-clause-right : goal.returns-clause-right
returns-clause-right c auto' documents = rw c.new.ensures (nothing_kept auto' documents)
