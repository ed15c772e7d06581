use Rattle.std.proofs.Common.{◌∙◌}
use Rattle.xd_type_text.proofs.Labels.{labels_written, filled}
use Rattle.xd_type_text.proofs.classes.write_label_list.Goals as goal

pub returns : goal.returns
returns c =
    let h = c.in-Some.ensures in
    labels_written _ _ _ _ _ _ _ _ _ (h.cases).0 (filled _ c.if-is_empty.ensures) (c.as_bytes-2.ensures.value ∙ c.as_str-2.ensures.bytes) c.in_ok-push.ensures.items c.in_ok-extend_from_slice-3.ensures.items c.in_ok-write_more_labels.ensures c.in_ok-push-2.ensures.items
