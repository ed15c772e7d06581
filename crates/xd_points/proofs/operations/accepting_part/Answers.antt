use Rattle.std.proofs.Common.{◌∙◌}
use Rattle.std.proofs.lemmas.Result.{IfOk-weaker}
use Rattle.xd_points.proofs.operations.accepting_part.Goals as goal

pub returns-clause-exact : goal.returns-clause-exact
returns-clause-exact c = IfOk-weaker c.inhabited_part.result _ _ (λ made exact d. exact d ∙ c.in_ok-state.ensures.exact d) c.inhabited_part.ensures.exact
