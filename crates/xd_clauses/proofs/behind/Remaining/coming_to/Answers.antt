use Rattle.std.proofs.Common.{◌≡◌, true, Ok, ap, ◌∙◌}
use Rattle.xd_auto.specs.Automaton.{accepts}
use Rattle.xd_syntax.specs.Placed.{unplaced}
use Rattle.xd_clauses.proofs.Leaving.{waits_not}
use Rattle.xd_clauses.proofs.NumberedLemmas.{numbered_state}
use Rattle.xd_clauses.proofs.behind.Remaining.coming_to.Goals as goal

pub left_over-requires-clause-universal : goal.left_over-requires-clause-universal
left_over-requires-clause-universal c = c.requires.pattern.numbered.patterns.universal

pub returns-then-is_apart-clause-comes : goal.returns-then-is_apart-clause-comes
returns-then-is_apart-clause-comes c = λ E P of d t.
    let m = c.args.pattern.patterns.now in
    let w = c.args.self.waiting in
    let taken : accepts m.states.auto d c.start-start.result ≡ true = ap (λ s. accepts m.states.auto d s) c.start-start.ensures.is ∙ ((numbered_state E (unplaced P) m c.args.pattern.number of).compiled.accepts d).1 t in
    let none = waits_not m w c.requires.stands.waiting d (c.in_ok-is_apart.ensures (ap (λ b. Ok b) c.if-is_apart.true) d taken) in
    (λ x. (x, none), λ x. x.0)

pub returns-clause-stands : goal.returns-clause-stands
returns-clause-stands c = record { state = c.in_ok-state.ensures.belongs; waiting = c.in_ok-waiting.ensures.waiting c.args.pattern.patterns.now }

pub returns-clause-remains : goal.returns-clause-remains
returns-clause-remains c = λ d. let x = c.in_ok-state.ensures.exact d in (λ m. x.0 m.0, λ m. (x.1 m, c.in_ok-waiting.ensures.none c.args.pattern.patterns.now d))

pub returns-clause-comes : goal.returns-clause-comes
returns-clause-comes c = λ E P of d t. c.in_ok-state.ensures.exact d
