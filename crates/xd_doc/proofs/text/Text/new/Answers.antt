use Rattle.xd_doc.proofs.TextLemmas.{part_is_text}
use Rattle.xd_doc.proofs.text.Text.new.Goals as goal

pub invariant_of-result : goal.invariant_of-result
invariant_of-result c = part_is_text _ _ c.in_ok-block.ensures.ok c.utf8.text
