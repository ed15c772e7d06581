use Rattle.std.proofs.Common.{ap, ◌∙◌}
use Rattle.xd_auto.specs.Automaton.{accepts}
use Rattle.xd_points.proofs.operations.beside_universal.Goals as goal

pub returns-clause-same : goal.returns-clause-same
returns-clause-same c = λ d.
    ap (λ a. accepts a d c.in_ok-right.state) c.in_ok-patterns.ensures.auto ∙ c.in_ok-right.ensures.same d ∙ c.in_ok-part.ensures.exact d

pub returns-clause-universal : goal.returns-clause-universal
returns-clause-universal c = λ d. ap (λ a. accepts a d c.in_ok-right.all) c.in_ok-patterns.ensures.auto ∙ c.in_ok-right.ensures.universal d
