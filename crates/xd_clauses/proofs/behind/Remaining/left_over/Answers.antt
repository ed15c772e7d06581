use Rattle.std.proofs.Common.{◌&&◌, not, List, ap, ◌∙◌}
use Rattle.xd_auto.specs.declared.auto.State.{State}
use Rattle.xd_auto.specs.Automaton.{accepts}
use Rattle.xd_auto.proofs.ExtendsLemmas.{keeps}
use Rattle.xd_boole.specs.Meaning.{any_accepts}
use Rattle.xd_clauses.specs.Behind.{any_waiting}
use Rattle.xd_clauses.proofs.Leaving.{and_tells}
use Rattle.xd_clauses.proofs.behind.Remaining.left_over.Goals as goal

pub returns-clause-exact : goal.returns-clause-exact
returns-clause-exact c = λ d.
    let m = c.args.patterns.now in
    let x = accepts c.args.auto.now d c.args.self.state in
    and_tells (accepts c.take_away.new.auto d c.in_ok-left.left) x (any_waiting m c.args.self.waiting d)
    (c.in_ok-left.ensures.exact d ∙ ap (λ (us : List State). x && not (any_accepts m.states.auto us d)) c.deref.ensures.value)

pub returns-clause-accepting : goal.returns-clause-accepting
returns-clause-accepting c = keeps c.args.auto.now c.take_away.new.auto c.len-states.ensures.closed c.take_away.ensures.extends

pub returns-in_err-left-clause-accepting : goal.returns-in_err-left-clause-accepting
returns-in_err-left-clause-accepting c = keeps c.args.auto.now c.take_away.new.auto c.len-states.ensures.closed c.take_away.ensures.extends
