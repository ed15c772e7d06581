use Rattle.std.proofs.Common.{◌<◌, length, arith, sym, subst}
use Rattle.std.proofs.lemmas.List.{take_all}
use Rattle.xd_boole.specs.Merging.{RedirectsTexts}
use Rattle.xd_auto.specs.declared.auto.TextMove.{TextMove}
use Rattle.xd_auto.specs.Automaton.{state_number}
use Rattle.xd_boole.proofs.IsRedirectedLemmas.{stands_within, text_given}
use Rattle.xd_boole.proofs.merging.redirect_texts.Goals as goal

pub loop-step-preserved : goal.loop-step-preserved
loop-step-preserved c =
    let before = c.loop-step.invariant in
    text_given c.args.same.now c.args.state c.args.moves.now c.loop-step.step-index c.step-item.result _ _ c.args.made.now c.loop-step.made c.add_text_move.new.self c.loop-step-test.true c.step-item.is
    c.in_ok-share.ensures.same c.stand_in.ensures (omega (arith, c.requires.state, before.others.states)) c.in_ok-add_text_move.ensures.ok c.add_text_move.ensures.others before

pub returns : goal.returns
returns c =
    subst (λ ms. RedirectsTexts c.args.same.now c.args.state ms c.args.made.now c.loop-step.made) (take_all c.loop-step.step-index c.args.moves.now c.loop-step-test.false) c.loop-step.invariant

pub add_text_move-requires-clause-rest : goal.add_text_move-requires-clause-rest
add_text_move-requires-clause-rest c =
    stands_within c.args.same.now c.step-item.result.rest c.stand_in.result c.args.made.now c.loop-step.made c.loop-step.invariant.others.states c.requires.same
    (subst (λ (m : TextMove). state_number m.rest < length c.args.made.now) (sym c.step-item.is) (c.requires.moves c.loop-step.step-index c.step-item.result c.loop-step-test.true)) c.stand_in.ensures
