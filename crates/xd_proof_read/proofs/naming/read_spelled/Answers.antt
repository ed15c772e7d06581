use Rattle.xd_proof_read.proofs.NamingFacts.{spelled_read}
use Rattle.xd_proof_read.proofs.naming.read_spelled.Goals as goal

pub returns-in-Ok-clause-read : goal.returns-in-Ok-clause-read
returns-in-Ok-clause-read c =
    spelled_read c.args.sound.now c.adopt.new.self.types _ c.args.bytes.now c.in-Ok.id c.adopt.result c.in-Ok.ensures.type_text c.adopt.ensures.defined c.adopt.ensures.found
