use Rattle.std.proofs.Common.{◌&&◌, ap, subst, sym, ◌∙◌}
use Rattle.xd_doc.specs.Classes.{class_has}
use Rattle.xd_doc.proofs.Bools.{and_and_false}
use Rattle.xd_doc.proofs.Lists.{all_step}
use Rattle.xd_boole.specs.Choices.{AllChoices, IsChoiceOf, any_choice, choice_refuses}
use Rattle.xd_points.specs.Points.{parts_accept}
use Rattle.xd_boole.proofs.DifferenceLemmas.{both_more}
use Rattle.xd_points.proofs.GrowsLemmas.{adds_like, adds_none, adds_then}
use Rattle.xd_boole.proofs.Bools.{part_group}
use Rattle.xd_boole.proofs.Lists.{any_walked}
use Rattle.xd_points.proofs.moves.add_group.Goals as goal

pub loop-choice-init : goal.loop-choice-init
loop-choice-init c =
    let a = c.args.automata.lefts.now in let b = c.args.automata.patterns.now in
    record {
      adds = adds_none c.requires.whole c.requires.leads
          (λ q. and_and_false (class_has c.args.group.now.class q.label) (parts_accept a b q.content q.rest c.args.parts));
      left = subst (AllChoices b.taken.auto) (sym c.deref-choice-items.ensures.value) c.requires.group;
    }

pub loop-choice-preserved : goal.loop-choice-preserved
loop-choice-preserved c =
    let a = c.args.automata.lefts.now in let b = c.args.automata.patterns.now in
    let items = c.deref-choice-items.result.now in
    let i = c.loop-choice.choice-index in
    let x = c.choice-item.result in
    let next = all_step (IsChoiceOf b.taken.auto) items i x c.loop-choice-test.true c.choice-item.is c.loop-choice.invariant.left in
    record {
      adds = adds_then c.loop-choice.invariant.adds c.in_ok-add_move.ensures
          (λ q. both_more (choice_refuses b.taken.auto q.content q.rest) items i x (class_has c.args.group.now.class q.label) (parts_accept a b q.content q.rest c.args.parts) c.loop-choice-test.true c.choice-item.is);
      left = next.1;
    }

pub returns : goal.returns
returns c =
    let a = c.args.automata.lefts.now in
    let b = c.args.automata.patterns.now in
    let group = c.args.group.now in
    let items = c.deref-choice-items.result.now in
    adds_like c.loop-choice.invariant.adds
    (λ q.
    ap (λ w. class_has group.class q.label && (parts_accept a b q.content q.rest c.args.parts && w)) (any_walked (choice_refuses b.taken.auto q.content q.rest) items c.loop-choice.choice-index c.loop-choice-test.false ∙ ap (any_choice b.taken.auto q.content q.rest) c.deref-choice-items.ensures.value)
    ∙ part_group (parts_accept a b q.content q.rest c.args.parts) (class_has group.class q.label) (any_choice b.taken.auto q.content q.rest group.choices.items))

pub add_move-requires : goal.add_move-requires
add_move-requires c =
    let b = c.args.automata.patterns.now in
    let next = all_step (IsChoiceOf b.taken.auto) c.deref-choice-items.result.now c.loop-choice.choice-index c.choice-item.result c.loop-choice-test.true c.choice-item.is c.loop-choice.invariant.left in
    record {
      whole = c.loop-choice.invariant.adds.whole;
      leads = c.loop-choice.invariant.adds.leads;
      parts = c.requires.parts;
      choice = next.0;
    }
