use Rattle.std.proofs.Common.{◌∙◌, arith}
use Rattle.xd_points.proofs.operations.merged_part.Goals as goal

pub returns-clause-same : goal.returns-clause-same
returns-clause-same c = λ d. c.in_ok-made.ensures.same d c.in_ok-part.state ∙ c.in_ok-part.ensures.ok d

pub returns-clause-belongs : goal.returns-clause-belongs
returns-clause-belongs c = omega (arith, c.in_ok-made.ensures.count, c.in_ok-part.ensures.belongs)
