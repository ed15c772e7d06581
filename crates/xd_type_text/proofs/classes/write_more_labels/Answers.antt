use Rattle.std.proofs.Common.{◌∙◌}
use Rattle.xd_type_text.proofs.Labels.{label_more}
use Rattle.xd_type_text.proofs.classes.write_more_labels.Goals as goal

pub loop-label-preserved : goal.loop-label-preserved
loop-label-preserved c =
    label_more _ _ _ _ _ _ _ _ c.loop-label-test.true c.label-item.is (c.as_bytes.ensures.value ∙ c.as_str.ensures.bytes) c.loop-label.invariant c.in_ok-push.ensures.items c.in_ok-extend_from_slice.ensures.items
