use Rattle.xd_proof_read.specs.declared.stages.Stage.TheVariants as stages
use Rattle.xd_proof_read.proofs.StageFacts.{as_stage}
use Rattle.xd_proof_read.proofs.stages.Stage.next.Goals as goal

pub returns-in-AtCount : goal.returns-in-AtCount
returns-in-AtCount c = as_stage c.args.self stages.AtCount c.args.said c.args.line c.after_title.result c.in-AtCount.is (c.after_title.ensures c.args.line)

pub returns-in-AtLeft : goal.returns-in-AtLeft
returns-in-AtLeft c = as_stage c.args.self (stages.AtLeft c.in-AtLeft.ended c.in-AtLeft.begun) c.args.said c.args.line c.after_number.result c.in-AtLeft.is (c.after_number.ensures c.args.line)
