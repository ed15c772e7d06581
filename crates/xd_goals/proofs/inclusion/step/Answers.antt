use Rattle.xd_doc.proofs.Lists.{all_more}
use Rattle.xd_rules.proofs.Results.{OnOk-from_err}
use Rattle.std.proofs.Common.{length, arith}
use Rattle.xd_goals.specs.Verdicts.{IsGoalBelow}
use Rattle.xd_goals.specs.declared.table.GoalId.{GoalId}
use Rattle.xd_goals.proofs.inclusion.step.Goals as goal

pub list_woken-requires-clause-agenda : goal.list_woken-requires-clause-agenda
list_woken-requires-clause-agenda c =
    all_more (IsGoalBelow (length c.args.goals.now.rows.items)) (IsGoalBelow (length c.work.new.goals.rows.items)) c.args.agenda.now.items (λ (g : GoalId) h. omega (arith, c.work.ensures.progresses.kept.longer)) c.requires.agenda

pub list_woken-requires-clause-goal : goal.list_woken-requires-clause-goal
list_woken-requires-clause-goal c = omega (arith, c.work.ensures.progresses.kept.longer, c.requires.goal.there)

pub list_new-requires : goal.list_new-requires
list_new-requires c = rw c.deref.ensures.value c.list_woken.ensures

pub returns-clause-agenda : goal.returns-clause-agenda
returns-clause-agenda c = rw c.deref.ensures.value at c.list_new.ensures

pub returns-in_err-work-clause-agenda : goal.returns-in_err-work-clause-agenda
returns-in_err-work-clause-agenda c = OnOk-from_err c.from_residual.result _ c.from_residual.ensures.0

pub returns-in_err-list_woken-clause-agenda : goal.returns-in_err-list_woken-clause-agenda
returns-in_err-list_woken-clause-agenda c = OnOk-from_err c.from_residual-in_err-list_woken.result _ c.from_residual-in_err-list_woken.ensures.0

pub returns-in_err-list_new-clause-agenda : goal.returns-in_err-list_new-clause-agenda
returns-in_err-list_new-clause-agenda c = OnOk-from_err c.from_residual-in_err-list_new.result _ c.from_residual-in_err-list_new.ensures.0

pub returns-in_err-work-clause-progresses : goal.returns-in_err-work-clause-progresses
returns-in_err-work-clause-progresses c = c.work.ensures.progresses

pub returns-in_err-list_woken-clause-progresses : goal.returns-in_err-list_woken-clause-progresses
returns-in_err-list_woken-clause-progresses c = c.work.ensures.progresses

pub returns-in_err-list_new-clause-progresses : goal.returns-in_err-list_new-clause-progresses
returns-in_err-list_new-clause-progresses c = c.work.ensures.progresses

pub returns-clause-progresses : goal.returns-clause-progresses
returns-clause-progresses c = c.work.ensures.progresses

pub returns-in_err-work-clause-settles : goal.returns-in_err-work-clause-settles
returns-in_err-work-clause-settles c = OnOk-from_err c.from_residual.result _ c.from_residual.ensures.0

pub returns-in_err-list_woken-clause-settles : goal.returns-in_err-list_woken-clause-settles
returns-in_err-list_woken-clause-settles c = OnOk-from_err c.from_residual-in_err-list_woken.result _ c.from_residual-in_err-list_woken.ensures.0

pub returns-in_err-list_new-clause-settles : goal.returns-in_err-list_new-clause-settles
returns-in_err-list_new-clause-settles c = OnOk-from_err c.from_residual-in_err-list_new.result _ c.from_residual-in_err-list_new.ensures.0

pub returns-clause-settles : goal.returns-clause-settles
returns-clause-settles c = c.in_ok-work.ensures.settles

pub work-requires-clause-can : goal.work-requires-clause-can
work-requires-clause-can c = c.requires.can

pub work-requires-clause-waits : goal.work-requires-clause-waits
work-requires-clause-waits c = c.requires.goal

pub list_woken-requires-clause-whole : goal.list_woken-requires-clause-whole
list_woken-requires-clause-whole c = c.work.ensures.progresses.whole
