use Rattle.std.proofs.Common.{◌≡◌, ◌∙◌, sym, subst, take, true}
use Rattle.std.specs.List.{All, Contains}
use Rattle.std.proofs.lemmas.List.{take_all}
use Rattle.std.proofs.lemmas.List.Elements.{All-contains, All-more, All-weaker}
use Rattle.xd_auto.specs.declared.auto.LabelMove.{LabelMove}
use Rattle.xd_auto.specs.Copying.{HasCopy, IsTarget, LabelBelow, copies_in, is_content, is_rest}
use Rattle.xd_auto.proofs.FindsMoreLemmas.{FindsMore-trans, FindsMore-weaker}
use Rattle.xd_auto.proofs.auto.copying.Reach.visit_labels.Goals as goal

pub loop-step-preserved : goal.loop-step-preserved
loop-step-preserved c =
    let item : LabelMove = c.step-item.result in
    let among : Contains c.args.moves.now item = (c.loop-step.step-index, c.loop-step-test.true, sym c.step-item.is) in
    let one = c.in_ok-visit_content.ensures.ok.more in
    let two = c.in_ok-visit.ensures.ok.more in
    record {
      placed = c.in_ok-visit.ensures.ok.placed;
      more = FindsMore-trans (IsTarget c.args.contents c.args.moves.now) _ _ _ _ _ _ c.loop-step.invariant.more
          (FindsMore-trans (IsTarget c.args.contents c.args.moves.now) _ _ _ _ _ _
          (FindsMore-weaker (λ t. (c.args.contents ≡ true) × (t ≡ item.content)) (IsTarget c.args.contents c.args.moves.now) _ _ _ _ (λ t p. is_content item p.0 among (sym p.1)) one)
          (FindsMore-weaker (λ t. t ≡ item.rest) (IsTarget c.args.contents c.args.moves.now) _ _ _ _ (λ t p. is_rest item among (sym p)) two));
      in_contents = λ on.
          All-more (λ (m : LabelMove). HasCopy (copies_in c.visit.new.self.copies) m.content) c.args.moves.now c.loop-step.step-index item c.loop-step-test.true
          (All-weaker (λ (m : LabelMove). HasCopy (copies_in c.loop-step.self.copies) m.content) (λ (m : LabelMove). HasCopy (copies_in c.visit.new.self.copies) m.content)
          (λ m p. two.kept m.content (one.kept m.content p)) (take c.loop-step.step-index c.args.moves.now) (c.loop-step.invariant.in_contents on))
          (subst (λ (m : LabelMove). HasCopy (copies_in c.visit.new.self.copies) m.content) c.step-item.is (two.kept item.content (c.in_ok-visit_content.ensures.copied on)));
      in_rests =
          All-more (λ (m : LabelMove). HasCopy (copies_in c.visit.new.self.copies) m.rest) c.args.moves.now c.loop-step.step-index item c.loop-step-test.true
          (All-weaker (λ (m : LabelMove). HasCopy (copies_in c.loop-step.self.copies) m.rest) (λ (m : LabelMove). HasCopy (copies_in c.visit.new.self.copies) m.rest)
          (λ m p. two.kept m.rest (one.kept m.rest p)) (take c.loop-step.step-index c.args.moves.now) c.loop-step.invariant.in_rests)
          (subst (λ (m : LabelMove). HasCopy (copies_in c.visit.new.self.copies) m.rest) c.step-item.is c.in_ok-visit.ensures.copied);
      steps = λ n below.
          let own = All-contains (LabelBelow n) c.args.moves.now item below among in
          c.in_ok-visit.ensures.steps n own.1 ∙ c.in_ok-visit_content.ensures.steps n own.0 ∙ c.loop-step.invariant.steps n below;
    }

pub returns-clause-contents : goal.returns-clause-contents
returns-clause-contents c = λ on.
    subst (λ w. All (λ (m : LabelMove). HasCopy (copies_in c.loop-step.self.copies) m.content) w) (take_all c.loop-step.step-index c.args.moves.now c.loop-step-test.false) (c.loop-step.invariant.in_contents on)

pub returns-clause-rests : goal.returns-clause-rests
returns-clause-rests c =
    subst (λ w. All (λ (m : LabelMove). HasCopy (copies_in c.loop-step.self.copies) m.rest) w) (take_all c.loop-step.step-index c.args.moves.now c.loop-step-test.false) c.loop-step.invariant.in_rests
