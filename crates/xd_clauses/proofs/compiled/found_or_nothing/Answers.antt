use Rattle.std.proofs.Common.{sym, ap, ◌∙◌}
use Rattle.xd_points.specs.Placing.{accepts_at}
use Rattle.xd_points.proofs.OperationLemmas.{new_accepts_nothing}
use Rattle.xd_clauses.proofs.compiled.found_or_nothing.Goals as goal

pub returns-in_ok-add_state-in-None-clause-exact : goal.returns-in_ok-add_state-in-None-clause-exact
returns-in_ok-add_state-in-None-clause-exact c = λ d.
    let ok = c.in_ok-add_state-in-None.ensures.ok in
    new_accepts_nothing c.args.auto.now c.add_state.new.self c.in_ok-add_state-in-None.field-0 ok.0 ok.1 d ∙ sym (ap (λ o. accepts_at c.args.auto.now d o) c.in-None.is)
