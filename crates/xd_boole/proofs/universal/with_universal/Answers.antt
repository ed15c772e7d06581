use Rattle.std.proofs.Common.{◌∙◌}
use Rattle.xd_auto.proofs.ExtendsLemmas.{keeps}
use Rattle.xd_boole.proofs.universal.with_universal.Goals as goal

pub returns-clause-same : goal.returns-clause-same
returns-clause-same c d =
    keeps c.in_ok-part.part c.add_universal.new.auto c.len-states.ensures.closed c.add_universal.ensures.extends d c.in_ok-part.start c.in_ok-part.ensures.belongs ∙ c.in_ok-part.ensures.ok d
