use Rattle.xd_type_text.proofs.Labels.{text_more}
use Rattle.xd_type_text.proofs.classes.write_more_texts.Goals as goal

pub loop-text-preserved : goal.loop-text-preserved
loop-text-preserved c =
    text_more _ _ _ _ _ _ _ _ c.loop-text-test.true c.text-item.is c.as_str.ensures.bytes c.loop-text.invariant c.in_ok-push.ensures.items c.in_ok-write_text.ensures.ok
