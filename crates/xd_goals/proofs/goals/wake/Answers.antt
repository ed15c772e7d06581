use Rattle.std.proofs.Common.{ap, ◌∙◌, arith, length, length-set}
use Rattle.xd_goals.specs.Rows.{GoalRow, row_at}
use Rattle.xd_goals.specs.Kept.{with_flag}
use Rattle.xd_goals.proofs.AreLinkedLemmas.{row_read}
use Rattle.xd_goals.proofs.IsWokenRowLemmas.{woken_flag}
use Rattle.xd_goals.proofs.goals.wake.Goals as goal

pub returns-in_default : goal.returns-in_default
returns-in_default c =
    let count = ap length c.set_flag.ensures ∙ length-set c.args.rows.now.items c.args.case.goal.number (with_flag c.args.case.place (row_at c.args.rows.now.items c.args.case.goal.number)) in
    woken_flag c.args.rows.now.items c.set_flag.new.rows.items c.args.case c.requires c.set_flag.ensures
    (λ e. c.in_default.not-Holds (ap (λ (r : GoalRow). r.standing) (c.row-2.view_is ∙ row_read c.set_flag.new.rows.items c.args.case.goal.number c.index-row-2.result.now (omega (arith, count, c.requires)) c.index-row-2.ensures) ∙ e))
