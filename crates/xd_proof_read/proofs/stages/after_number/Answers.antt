use Rattle.std.proofs.Common.{Some, None, refl}
use Rattle.xd_proof.specs.declared.proof.ProofGoal.{ProofGoal}
use Rattle.xd_proof_read.specs.declared.stages.Stage.TheVariants as stages
use Rattle.xd_proof_read.specs.declared.said.Said.TheVariants as said
use Rattle.xd_proof_read.proofs.StageFacts.{as_said, left_next}
use Rattle.xd_proof_read.proofs.stages.after_number.Goals as goal

pub returns-in-Left : goal.returns-in-Left
returns-in-Left c = λ line.
    let new : ProofGoal = record { line = c.args.begun; left = c.in-Left.left; rights = c.new.result; empty_right = None; cases = c.new-in-Left.result } in
    as_said (stages.AtLeft c.args.ended c.args.begun) c.args.said (said.Left c.in-Left.left) line (Some (stages.InRights c.args.ended new)) c.in-Left.is
    (left_next c.args.ended c.args.begun c.in-Left.left new refl refl c.new.ensures.items refl c.new-in-Left.ensures.items line)
