use Rattle.std.proofs.Common.{◌≡◌, ◌∙◌, Ok, None, length, get_or, ap, sym, arith}
use Rattle.xd_doc.proofs.Options.{none_from}
use Rattle.xd_auto.specs.Automaton.{state_number}
use Rattle.xd_empty.specs.Inhabited.{IsUnknown}
use Rattle.xd_empty.specs.Uses.{lists_by_state, user}
use Rattle.xd_empty.proofs.SearchLemmas.{not_unknown, searching_found, searching_keeps, searching_next, steps_kept, user_there}
use Rattle.xd_empty.proofs.UsesLemmas.{length-lists}
use Rattle.xd_empty.proofs.finding.look_at.Goals as goal

pub returns-then-is_some-clause-searching : goal.returns-then-is_some-clause-searching
returns-then-is_some-clause-searching c =
    let fs = c.args.found.now in
    let u = c.index-step.result.now in
    let at : c.number.result ≡ state_number (user u) = c.number.ensures ∙ ap state_number c.state-state.ensures in
    searching_next c.args.auto.now c.args.store.now c.args.uses.now.first (length c.args.auto.now) fs (lists_by_state c.args.uses.now) c.args.uses.now.waiting.items c.args.place c.requires.searching u c.requires.place
    (sym c.index-step.ensures) (λ (unknown : IsUnknown fs (user u)).
    absurd (not_unknown (get_or fs c.number.result None) (sym c.is_some.ensures ∙ c.if-is_some.true) (ap (λ k. get_or fs k None) at ∙ unknown)))

pub returns-in_default-clause-searching : goal.returns-in_default-clause-searching
returns-in_default-clause-searching c =
    let a = c.args.auto.now in
    let fs = c.args.found.now in
    let uses = lists_by_state c.args.uses.now in
    let waiting = c.args.uses.now.waiting.items in
    let kept = searching_keeps a c.args.store.now c.args.uses.now.first (length a) fs uses waiting c.args.place c.requires.searching c.document_by.new.store c.in_ok-seq.ensures.keeps in
    searching_next a c.document_by.new.store c.args.uses.now.first (length a) fs uses waiting c.args.place kept c.index-step.result.now c.requires.place
    (sym c.index-step.ensures) (λ unknown. c.in_ok-seq.ensures.none (ap Ok (none_from _ c.in_default.not-Some)))

pub returns-clause-searching : goal.returns-clause-searching
returns-clause-searching c =
    let a = c.args.auto.now in
    let fs = c.args.found.now in
    let uses = lists_by_state c.args.uses.now in
    let waiting = c.args.uses.now.waiting.items in
    let kept = searching_keeps a c.args.store.now c.args.uses.now.first (length a) fs uses waiting c.args.place c.requires.searching c.document_by.new.store c.in_ok-seq.ensures.keeps in
    rw (c.in_ok-find.ensures.found, c.in_ok-find.ensures.uses, c.in_ok-find.ensures.waiting, c.state-state.ensures)
    (searching_found a c.document_by.new.store c.args.uses.now.first (length a) fs uses waiting c.args.place c.index-step.result.now c.in-Some.seq kept c.requires.place
    (sym c.index-step.ensures) (rw c.in-Some.is at c.in_ok-seq.ensures.some))

pub find-requires-clause-new : goal.find-requires-clause-new
find-requires-clause-new c =
    let is = c.requires.searching.waiting_there c.index-step.result.now (c.args.place, c.requires.place, sym c.index-step.ensures) in
    rw c.state-state.ensures is.1

pub find-requires-clause-below : goal.find-requires-clause-below
find-requires-clause-below c =
    let u = c.index-step.result.now in
    let is = c.requires.searching.waiting_there u (c.args.place, c.requires.place, sym c.index-step.ensures) in
    let there = user_there c.args.auto.now u is.0 in
    rw c.state-state.ensures (omega (arith, there, c.requires.searching.sized, length-lists c.args.uses.now.first c.args.uses.now.lists.items))

pub find-requires-clause-found : goal.find-requires-clause-found
find-requires-clause-found c =
    let u = c.index-step.result.now in
    let is = c.requires.searching.waiting_there u (c.args.place, c.requires.place, sym c.index-step.ensures) in
    let there = user_there c.args.auto.now u is.0 in
    rw c.state-state.ensures (omega (arith, there, c.requires.searching.count))

pub returns-clause-steps : goal.returns-clause-steps
returns-clause-steps c =
    let u = c.index-step.result.now in
    let is = c.requires.searching.waiting_there u (c.args.place, c.requires.place, sym c.index-step.ensures) in
    let there = user_there c.args.auto.now u is.0 in
    rw (c.in_ok-find.ensures.uses, c.in_ok-find.ensures.waiting, c.state-state.ensures)
    (steps_kept (lists_by_state c.args.uses.now) c.args.uses.now.waiting.items (user u) (omega (arith, there, c.requires.searching.sized)))
