use Rattle.std.proofs.Common.{Some, refl}
use Rattle.xd_proof.specs.declared.proof.ProofGoal.{ProofGoal}
use Rattle.xd_proof_read.specs.declared.stages.Stage.TheVariants as stages
use Rattle.xd_proof_read.specs.declared.said.Said.TheVariants as said
use Rattle.xd_proof_read.proofs.StageFacts.{as_said, right_next, empty_next, right_others}
use Rattle.xd_proof_read.proofs.stages.after_right.Goals as goal

pub returns-in_ok-push-in-Right : goal.returns-in_ok-push-in-Right
returns-in_ok-push-in-Right c =
    let new : ProofGoal = record c.args.goal { rights = c.push.new.self } in
    as_said (stages.InRights c.args.ended c.args.goal) c.args.said (said.Right c.in-Right.right) c.args.line (Some (stages.InRights c.args.ended new)) c.in-Right.is
    (right_next c.args.ended c.args.goal new c.in-Right.right c.args.line refl refl c.in_ok-push-in-Right.ensures.items refl refl)

pub returns-in-Empty : goal.returns-in-Empty
returns-in-Empty c =
    let new : ProofGoal = record c.args.goal { empty_right = Some c.in-Empty.number } in
    as_said (stages.InRights c.args.ended c.args.goal) c.args.said (said.Empty c.in-Empty.number) c.args.line (Some (stages.InCases c.args.ended new)) c.in-Empty.is
    (empty_next c.args.ended c.args.goal new c.in-Empty.number c.args.line refl refl refl refl refl)

pub returns-in_default : goal.returns-in_default
returns-in_default c = right_others c.args.ended c.args.goal c.args.said c.args.line c.after_case.result c.in_default.not-Right c.in_default.not-Empty c.after_case.ensures
