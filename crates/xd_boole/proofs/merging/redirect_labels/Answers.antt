use Rattle.std.proofs.Common.{◌<◌, length, arith, sym, subst}
use Rattle.std.proofs.lemmas.List.{take_all}
use Rattle.xd_boole.specs.Merging.{RedirectsLabels}
use Rattle.xd_auto.specs.declared.auto.LabelMove.{LabelMove}
use Rattle.xd_auto.specs.Automaton.{state_number}
use Rattle.xd_boole.proofs.IsRedirectedLemmas.{label_given, stands_within}
use Rattle.xd_boole.proofs.merging.redirect_labels.Goals as goal

pub loop-step-preserved : goal.loop-step-preserved
loop-step-preserved c =
    let before = c.loop-step.invariant in
    label_given c.args.same.now c.args.state c.args.moves.now c.loop-step.step-index c.step-item.result _ _ _ c.args.made.now c.loop-step.made c.add_label_move.new.self c.loop-step-test.true c.step-item.is
    c.in_ok-share.ensures.same c.stand_in.ensures c.stand_in-in-loop-step.ensures (omega (arith, c.requires.state, before.others.states)) c.in_ok-add_label_move.ensures.ok c.add_label_move.ensures.others before

pub returns : goal.returns
returns c =
    subst (λ ms. RedirectsLabels c.args.same.now c.args.state ms c.args.made.now c.loop-step.made) (take_all c.loop-step.step-index c.args.moves.now c.loop-step-test.false) c.loop-step.invariant

pub add_label_move-requires-clause-content : goal.add_label_move-requires-clause-content
add_label_move-requires-clause-content c =
    stands_within c.args.same.now c.step-item.result.content c.stand_in.result c.args.made.now c.loop-step.made c.loop-step.invariant.others.states c.requires.same
    (subst (λ (m : LabelMove). state_number m.content < length c.args.made.now) (sym c.step-item.is) (c.requires.moves c.loop-step.step-index c.step-item.result c.loop-step-test.true).0) c.stand_in.ensures

pub add_label_move-requires-clause-rest : goal.add_label_move-requires-clause-rest
add_label_move-requires-clause-rest c =
    stands_within c.args.same.now c.step-item.result.rest c.stand_in-in-loop-step.result c.args.made.now c.loop-step.made c.loop-step.invariant.others.states c.requires.same
    (subst (λ (m : LabelMove). state_number m.rest < length c.args.made.now) (sym c.step-item.is) (c.requires.moves c.loop-step.step-index c.step-item.result c.loop-step-test.true).1) c.stand_in-in-loop-step.ensures
