use Rattle.std.proofs.Common.{◌≡◌, ap, sym, ◌∙◌}
use Rattle.xd_auto.specs.Automaton.{accepts}
use Rattle.xd_syntax.specs.Placed.{unplaced}
use Rattle.xd_syntax.specs.Ways.{Takes}
use Rattle.xd_clauses.specs.Behind.{any_waiting}
use Rattle.xd_clauses.specs.Compiled.{state_of}
use Rattle.xd_clauses.proofs.Leaving.{neither}
use Rattle.xd_clauses.proofs.NumberedLemmas.{numbered_state}
use Rattle.xd_clauses.proofs.behind.Remaining.without.Goals as goal

pub returns-clause-stands : goal.returns-clause-stands
returns-clause-stands c = λ a h. record { state = h.state; waiting = c.in_ok-waiting.ensures.waiting }

pub returns-clause-remains : goal.returns-clause-remains
returns-clause-remains c = λ E P of a d.
    let m = c.args.pattern.patterns.now in
    let n = c.args.pattern.number in
    let w = c.args.self.waiting in
    let s = c.start.result in
    let same : accepts m.states.auto d s ≡ accepts m.states.auto d (state_of m n) = ap (λ t. accepts m.states.auto d t) c.start.ensures.is in
    let is = (numbered_state E (unplaced P) m n of).compiled.accepts d in
    let none = neither (any_waiting m c.in_ok-waiting.waiting d) (any_waiting m w d) (accepts m.states.auto d s) (Takes E (unplaced P) d) (c.in_ok-waiting.ensures.adds d) (λ t. is.0 (sym same ∙ t), λ t. same ∙ is.1 t) in
    (λ x. let y = none.0 x.1 in ((x.0, y.0), y.1), λ x. (x.0.0, none.1 (x.0.1, x.1)))
