use Rattle.std.proofs.Common.{sym, subst}
use Rattle.xd_doc.proofs.Options.{none_from}
use Rattle.xd_empty.specs.Inhabited.{LacksOne}
use Rattle.xd_empty.proofs.SearchLemmas.{element_witness, text_lacks, text_witness}
use Rattle.xd_empty.proofs.UsesLemmas.{parts-element}
use Rattle.xd_empty.proofs.finding.document_by.Goals as goal

pub elem_node-requires-clause-content : goal.elem_node-requires-clause-content
elem_node-requires-clause-content c = (c.requires.witnesses c.index-moves-number.result.content c.in-Some.content c.in-Some.ensures.content).belongs

pub elem_node-requires-clause-next : goal.elem_node-requires-clause-next
elem_node-requires-clause-next c = (c.requires.witnesses c.index-moves-number.result.rest c.in-Some.rest c.in-Some.ensures.rest).belongs

pub returns-in_default-found-clause-none : goal.returns-in_default-found-clause-none
returns-in_default-found-clause-none c = λ e.
    rw c.in-Text.is
    (text_lacks c.args.auto.now c.in-Text.state c.in-Text.number c.text_moves-moves.result.now c.args.found.now c.index-moves-number-in-Text.result c.text_moves-moves.ensures.value (rw c.in-Text.is at c.requires.step)
    c.index-moves-number-in-Text.is (rw c.number.ensures at (none_from _ c.in_default-found.not-Some)))

pub text_node-requires : goal.text_node-requires
text_node-requires c = (c.requires.witnesses c.index-moves-number-in-Text.result.rest c.in-Some-found.rest (rw c.number.ensures at c.in-Some-found.is)).belongs

pub returns-in_default-clause-none : goal.returns-in_default-clause-none
returns-in_default-clause-none c = λ e.
    let m = c.index-moves-number.result in
    let is = rw c.in-Element.is at c.requires.step in
    rw c.in-Element.is
    (subst (LacksOne c.args.found.now) (sym (parts-element c.args.auto.now c.in-Element.state c.in-Element.number m c.label_moves-moves.result.now c.label_moves-moves.ensures.value (rw (← c.label_moves-moves.ensures.value) at is.1) c.index-moves-number.is))
    (c.parts.ensures.none (none_from _ c.in_default.not-Some)))

pub returns-in_ok-elem_node-in-Element-clause-some : goal.returns-in_ok-elem_node-in-Element-clause-some
returns-in_ok-elem_node-in-Element-clause-some c =
    let m = c.index-moves-number.result in
    let is = rw c.in-Element.is at c.requires.step in
    rw c.in-Element.is
    (element_witness c.args.auto.now c.args.store.now c.elem_node.new.self c.in-Element.state c.in-Element.number c.label_moves-moves.result.now m c.in_ok-label-in-Element.label c.in-Some.content c.in-Some.rest c.in_ok-elem_node-in-Element.field-0
    c.label_moves-moves.ensures.value (rw (← c.label_moves-moves.ensures.value) at is.1) c.index-moves-number.is c.in_ok-label-in-Element.ensures
    (c.requires.witnesses m.content c.in-Some.content c.in-Some.ensures.content) (c.requires.witnesses m.rest c.in-Some.rest c.in-Some.ensures.rest)
    c.in_ok-elem_node-in-Element.ensures.belongs c.in_ok-elem_node-in-Element.ensures.ok)

pub returns-in_ok-text_node-in-Text-clause-some : goal.returns-in_ok-text_node-in-Text-clause-some
returns-in_ok-text_node-in-Text-clause-some c =
    let m = c.index-moves-number-in-Text.result in
    let is = rw c.in-Text.is at c.requires.step in
    rw c.in-Text.is
    (text_witness c.args.auto.now c.args.store.now c.text_node.new.self c.in-Text.state c.in-Text.number c.text_moves-moves.result.now m c.in_ok-text-in-Text.text c.in-Some-found.rest c.in_ok-text_node-in-Text.field-0
    c.text_moves-moves.ensures.value (rw (← c.text_moves-moves.ensures.value) at is.1) c.index-moves-number-in-Text.is c.in_ok-text-in-Text.ensures
    (c.requires.witnesses m.rest c.in-Some-found.rest (rw c.number.ensures at c.in-Some-found.is))
    c.in_ok-text_node-in-Text.ensures.belongs c.in_ok-text_node-in-Text.ensures.ok)
