use Rattle.std.proofs.Common.{ℕ, Option, ap, ◌∙◌, subst}
use Rattle.xd_goals.specs.Rows.{GoalRow, Leads}
use Rattle.xd_goals.specs.Kept.{IsWoken}
use Rattle.xd_goals.proofs.AreLinkedLemmas.{row_read}
use Rattle.xd_goals.proofs.IsWokenRowLemmas.{Refutes-steps}
use Rattle.xd_goals.proofs.goals.refute.Goals as goal

pub returns : goal.returns
returns c =
    Refutes-steps c.args.links.now c.args.goal.number c.args.document c.args.rows.now.items c.set_standing.new.rows.items c.wake_all.new.rows.items c.requires.goal c.set_standing.ensures
    (subst (λ (o : Option ℕ). IsWoken (λ k. Leads c.args.links.now k o) c.set_standing.new.rows.items c.wake_all.new.rows.items)
    (ap (λ (r : GoalRow). r.dependents) (c.row.view_is ∙ row_read c.args.rows.now.items c.args.goal.number c.index-row.result.now c.requires.goal c.index-row.ensures))
    c.wake_all.ensures)
