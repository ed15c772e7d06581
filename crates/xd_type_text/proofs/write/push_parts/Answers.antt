use Rattle.xd_type_text.proofs.Labels.{filled}
use Rattle.xd_type_text.proofs.Pieces.{push_many, push_last, no_others}
use Rattle.xd_type_text.proofs.write.push_parts.Goals as goal

pub returns-then-is_empty : goal.returns-then-is_empty
returns-then-is_empty c =
    let h = c.in-Some.ensures in
    push_last _ _ _ _ _ _ (no_others _ _ _ (h.cases).0 c.if-is_empty.ensures) c.last.ensures c.in_ok-push.ensures.items

pub returns : goal.returns
returns c =
    let h = c.in-Some.ensures in
    push_many _ _ _ _ _ _ _ _ _ _ (h.cases).0 (filled _ c.if-is_empty.ensures) c.inner.ensures c.mark.ensures c.in_ok-push-2.ensures.items c.in_ok-push-3.ensures.items c.in_ok-push-4.ensures.items
