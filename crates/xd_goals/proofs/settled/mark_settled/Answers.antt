use Rattle.std.proofs.Common.{ℕ, ◌<◌, length}
use Rattle.std.proofs.lemmas.List.{get_or_default}
use Rattle.xd_doc.proofs.Lists.{all_get}
use Rattle.xd_goals.proofs.IsWalkedLemmas.{marks_none, marks_more}
use Rattle.xd_goals.proofs.settled.mark_settled.Goals as goal

pub loop-number-init : goal.loop-number-init
loop-number-init c = marks_none c.args.rows.now.items

pub loop-number-preserved : goal.loop-number-preserved
loop-number-preserved c =
    marks_more c.args.order.now c.loop-number.number-index _ c.args.rows.now.items c.loop-number.rows.items c.set_settled.new.rows.items c.loop-number-test.true
    (get_or_default c.args.order.now c.loop-number.number-index _ _ c.loop-number-test.true)
    (all_get (λ (n : ℕ). n < length c.args.rows.now.items) c.args.order.now c.loop-number.number-index _ c.requires c.loop-number-test.true)
    c.loop-number.invariant c.set_settled.ensures
