use Rattle.std.proofs.Common.{◌≡◌, List, length, refl, sym, subst, arith}
use Rattle.std.specs.List.{All}
use Rattle.xd_auto.specs.declared.auto.LabelMove.{LabelMove}
use Rattle.xd_auto.specs.declared.auto.TextMove.{TextMove}
use Rattle.xd_auto.specs.Automaton.{IsState, moves_at}
use Rattle.xd_given.specs.Owning.{point_moves}
use Rattle.xd_given.proofs.FillLemmas.{filled_more, labels_land, states_of_same, texts_land}
use Rattle.xd_given.proofs.blocks.fill_blocks.Goals as goal

pub put_labels-requires-clause-lead : goal.put_labels-requires-clause-lead
put_labels-requires-clause-lead g c =
    let b = point_moves c.args.of.now.table.now (g.H.Holds.owned c.args.of.now.owner.now c.args.variable) in
    let a = c.loop-number.auto' in
    let s = c.state-point.result in
    subst (λ (ms : List LabelMove). All (λ m. IsState a m.content × IsState a m.rest) ms) (sym c.in_ok-labels.ensures)
    (labels_land a b c.args.places.now c.args.blocks.now (length c.args.blocks.now) c.requires.count refl (states_of_same c.args.auto.now a c.args.places.now c.loop-number.invariant.states c.requires.places)
    (states_of_same c.args.auto.now a c.args.blocks.now c.loop-number.invariant.states c.requires.blocks) s (moves_at c.args.of.now.drawing.now s) (c.requires.leads s (omega (arith, c.state-point.ensures.number, c.loop-number-test.true))))

pub put_texts-requires-clause-lead : goal.put_texts-requires-clause-lead
put_texts-requires-clause-lead g c =
    let b = point_moves c.args.of.now.table.now (g.H.Holds.owned c.args.of.now.owner.now c.args.variable) in
    let a = c.put_labels.new.auto in
    let s = c.state-point.result in
    let count : length a ≡ length c.args.auto.now = omega (arith, c.in_ok-put_labels.ensures.others.states, c.loop-number.invariant.states) in
    subst (λ (ms : List TextMove). All (λ m. IsState a m.rest) ms) (sym c.in_ok-texts.ensures)
    (texts_land a b c.args.blocks.now (length c.args.blocks.now) refl (states_of_same c.args.auto.now a c.args.blocks.now count c.requires.blocks) s (moves_at c.args.of.now.drawing.now s)
    (c.requires.leads s (omega (arith, c.state-point.ensures.number, c.loop-number-test.true))))

pub loop-number-preserved : goal.loop-number-preserved
loop-number-preserved g c =
    filled_more (point_moves c.args.of.now.table.now (g.H.Holds.owned c.args.of.now.owner.now c.args.variable)) c.args.of.now.drawing.now c.args.places.now c.args.blocks.now c.args.base c.loop-number.number c.args.auto.now c.loop-number.auto' c.put_labels.new.auto c.put_texts.new.auto
    c.state-at.result c.state-point.result c.in_ok-labels.labels.items c.in_ok-texts.texts.items c.state-at.ensures.number c.state-point.ensures.number c.loop-number.invariant c.in_ok-labels.ensures c.in_ok-texts.ensures
    c.in_ok-put_labels.ensures.ok c.in_ok-put_texts.ensures.ok
