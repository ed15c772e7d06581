use Rattle.xd_proof_read.proofs.NamingFacts.{can_name}
use Rattle.xd_proof_read.proofs.StageFacts.{taken}
use Rattle.xd_proof_read.proofs.goals.take_line.Goals as goal

pub returns-in-Some-clause-next : goal.returns-in-Some-clause-next
returns-in-Some-clause-next c =
    taken c.args.sound.now c.read_line.new.sound c.args.naming.now (can_name c.args.sound.now c.args.naming.now c.requires) c.args.line.now c.args.stage c.args.number c.in-Some.said c.next.result
    c.read_line.ensures.grows.adds.types (rw c.in-Some.is at c.in_ok-read_line.ensures.said) c.next.ensures
