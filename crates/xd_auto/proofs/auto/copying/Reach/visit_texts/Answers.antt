use Rattle.std.proofs.Common.{◌≡◌, ◌∙◌, ◌<◌, sym, subst, take}
use Rattle.std.specs.List.{All, Contains}
use Rattle.std.proofs.lemmas.List.{take_all}
use Rattle.std.proofs.lemmas.List.Elements.{All-contains, All-more, All-weaker}
use Rattle.xd_auto.specs.declared.auto.TextMove.{TextMove}
use Rattle.xd_auto.specs.Copying.{HasCopy, IsTextTarget, copies_in}
use Rattle.xd_auto.proofs.FindsMoreLemmas.{FindsMore-trans, FindsMore-weaker}
use Rattle.xd_auto.proofs.auto.copying.Reach.visit_texts.Goals as goal

pub loop-step-preserved : goal.loop-step-preserved
loop-step-preserved c =
    let item : TextMove = c.step-item.result in
    let among : Contains c.args.moves.now item = (c.loop-step.step-index, c.loop-step-test.true, sym c.step-item.is) in
    record {
      placed = c.in_ok-visit.ensures.ok.placed;
      more = FindsMore-trans (IsTextTarget c.args.moves.now) _ _ _ _ _ _ c.loop-step.invariant.more
          (FindsMore-weaker (λ t. t ≡ item.rest) (IsTextTarget c.args.moves.now) _ _ _ _ (λ t same. (item, among, sym same)) c.in_ok-visit.ensures.ok.more);
      copied = All-more (λ (m : TextMove). HasCopy (copies_in c.visit.new.self.copies) m.rest) c.args.moves.now c.loop-step.step-index item c.loop-step-test.true
          (All-weaker (λ (m : TextMove). HasCopy (copies_in c.loop-step.self.copies) m.rest) (λ (m : TextMove). HasCopy (copies_in c.visit.new.self.copies) m.rest)
          (λ m p. c.in_ok-visit.ensures.ok.more.kept m.rest p) (take c.loop-step.step-index c.args.moves.now) c.loop-step.invariant.copied)
          (subst (λ (m : TextMove). HasCopy (copies_in c.visit.new.self.copies) m.rest) c.step-item.is c.in_ok-visit.ensures.copied);
      steps = λ n below. c.in_ok-visit.ensures.steps n (All-contains (λ (m : TextMove). m.rest.number < n) c.args.moves.now item below among) ∙ c.loop-step.invariant.steps n below;
    }

pub returns-clause-copied : goal.returns-clause-copied
returns-clause-copied c =
    subst (λ w. All (λ (m : TextMove). HasCopy (copies_in c.loop-step.self.copies) m.rest) w) (take_all c.loop-step.step-index c.args.moves.now c.loop-step-test.false) c.loop-step.invariant.copied
