use Rattle.xd_auto.specs.Copying.{copies_in}
use Rattle.xd_auto.proofs.Copies.{AddsCopies-more}
use Rattle.xd_auto.proofs.auto.copying.add_labels.Goals as goal

pub loop-step-preserved : goal.loop-step-preserved
loop-step-preserved c = record {
  labels = rw c.in_ok-push_label.ensures.ok
      (AddsCopies-more (copies_in c.args.contents.now) (copies_in c.args.rests.now) c.args.moves.now c.args.into.now.labels c.loop-step.into.labels c.loop-step.step-index c.step-item.result
      (record { class = c.in_ok-share.field-0; content = c.moved_to.result; rest = c.moved_to-in-loop-step.result }) c.loop-step-test.true c.step-item.is c.loop-step.invariant.labels
      (record { class = c.in_ok-share.ensures.same; content = c.moved_to.ensures; rest = c.moved_to-in-loop-step.ensures }));
  last = rw c.in_ok-push_label.ensures.ok c.loop-step.invariant.last;
  texts = rw c.in_ok-push_label.ensures.ok c.loop-step.invariant.texts;
}
