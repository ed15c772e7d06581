use Rattle.std.proofs.Common.{◌∙◌}
use Rattle.std.proofs.lemmas.Result.{IfOk-weaker}
use Rattle.xd_points.proofs.operations.accepting.Goals as goal

pub returns-clause-exact : goal.returns-clause-exact
returns-clause-exact c = IfOk-weaker c.found_or_nothing.result _ _ (λ made exact d. exact d ∙ c.in_ok-found.ensures.exact d) c.found_or_nothing.ensures.exact

pub accept-requires-clause-table : goal.accept-requires-clause-table
accept-requires-clause-table c = c.new-table.ensures.table c.args.auto.now c.args.patterns.now
