use Rattle.std.proofs.Common.{rules, ◌<◌, length, List, slice_index_or, sym, subst}
use Rattle.xd_auto.specs.declared.auto.State.{State}
use Rattle.xd_auto.specs.Automaton.{IsState}
use Rattle.xd_clauses.proofs.NumberedLemmas.{numbered_below, numbered_state}
use Rattle.xd_clauses.proofs.numbered.NumberedPattern.start.Goals as goal

pub offset_bounds-patterns-self : goal.offset_bounds-patterns-self
offset_bounds-patterns-self c =
    let p = c.requires in
    let l : c.args.self.number < length c.patterns.result.now =
    subst (λ (ss : List State). c.args.self.number < length ss) (sym c.patterns.ensures) (numbered_below p.names p.tree c.args.self.patterns.now c.args.self.number p.numbered) in
    search rules

pub bounds-patterns-self : goal.bounds-patterns-self
bounds-patterns-self c =
    let p = c.requires in
    subst (λ (ss : List State). c.args.self.number < length ss) (sym c.patterns.ensures) (numbered_below p.names p.tree c.args.self.patterns.now c.args.self.number p.numbered)

pub returns-clause-belongs : goal.returns-clause-belongs
returns-clause-belongs c =
    let p = c.requires in
    subst (λ (ss : List State). IsState c.args.self.patterns.now.states.auto (slice_index_or ss c.args.self.number (record { number = 0 }))) (sym c.patterns.ensures)
    (numbered_state p.names p.tree c.args.self.patterns.now c.args.self.number p.numbered).belongs
