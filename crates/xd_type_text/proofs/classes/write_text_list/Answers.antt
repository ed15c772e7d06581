use Rattle.xd_type_text.proofs.Labels.{texts_written, filled}
use Rattle.xd_type_text.proofs.classes.write_text_list.Goals as goal

pub returns : goal.returns
returns c =
    let h = c.in-Some.ensures in
    texts_written _ _ _ _ _ _ _ _ _ (h.cases).0 (filled _ c.if-is_empty.ensures) c.as_str-2.ensures.bytes c.in_ok-push.ensures.items c.in_ok-write_text-2.ensures.ok c.in_ok-write_more_texts.ensures c.in_ok-push-2.ensures.items
