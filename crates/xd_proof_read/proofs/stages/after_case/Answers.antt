use Rattle.std.proofs.Common.{Some, None, refl}
use Rattle.xd_proof.specs.declared.proof.ProofGoal.{ProofGoal}
use Rattle.xd_proof_read.specs.declared.stages.Stage.TheVariants as stages
use Rattle.xd_proof_read.specs.declared.said.Said.TheVariants as said
use Rattle.xd_proof_read.proofs.StageFacts.{as_said, goal_next, goal_none, end_next, end_none, case_next}
use Rattle.xd_proof_read.proofs.stages.after_case.Goals as goal

pub returns-then-goes_on : goal.returns-then-goes_on
returns-then-goes_on c =
    let e = c.in_ok-ended-in-Goal in
    as_said (stages.InCases c.args.ended c.args.goal) c.args.said (said.Goal c.in-Goal.number) c.args.line (Some (stages.AtLeft e.ended c.args.line)) c.in-Goal.is
    (goal_next c.args.ended e.ended c.args.goal c.in-Goal.number c.args.line c.goes_on.result e.ensures.count e.ensures.goals c.goes_on.ensures c.if-goes_on.true)

pub returns-else-goes_on : goal.returns-else-goes_on
returns-else-goes_on c =
    let e = c.in_ok-ended-in-Goal in
    as_said (stages.InCases c.args.ended c.args.goal) c.args.said (said.Goal c.in-Goal.number) c.args.line None c.in-Goal.is
    (goal_none c.args.ended e.ended c.args.goal c.in-Goal.number c.args.line c.goes_on.result e.ensures.count e.ensures.goals c.goes_on.ensures c.if-goes_on.false)

pub returns-then-are_all : goal.returns-then-are_all
returns-then-are_all c =
    let e = c.in_ok-ended-in-End in
    as_said (stages.InCases c.args.ended c.args.goal) c.args.said said.End c.args.line (Some (stages.AtEnd e.ended.goals)) c.in-End.is
    (end_next c.args.ended e.ended c.args.goal c.args.line c.are_all.result e.ensures.count e.ensures.goals c.are_all.ensures c.if-are_all.true)

pub returns-else-are_all : goal.returns-else-are_all
returns-else-are_all c =
    let e = c.in_ok-ended-in-End in
    as_said (stages.InCases c.args.ended c.args.goal) c.args.said said.End c.args.line None c.in-End.is
    (end_none c.args.ended e.ended c.args.goal c.args.line c.are_all.result e.ensures.count e.ensures.goals c.are_all.ensures c.if-are_all.false)

pub returns-in_ok-push-in-Case : goal.returns-in_ok-push-in-Case
returns-in_ok-push-in-Case c =
    let new : ProofGoal = record c.args.goal { cases = c.push.new.self } in
    as_said (stages.InCases c.args.ended c.args.goal) c.args.said (said.Case c.in-Case.case) c.args.line (Some (stages.InCases c.args.ended new)) c.in-Case.is
    (case_next c.args.ended c.args.goal new c.in-Case.case c.args.line refl refl refl refl c.in_ok-push-in-Case.ensures.items)
