use Rattle.xd_proof_read.proofs.NamingFacts.{read_numbered}
use Rattle.xd_proof_read.proofs.naming.Naming.read.Goals as goal

pub returns-in-Numbered-clause-read : goal.returns-in-Numbered-clause-read
returns-in-Numbered-clause-read c =
    read_numbered c.args.sound.now c.args.self.now c.in-Numbered.types c.deref.result.now c.args.bytes.now c.numbered_type.result c.in-Numbered.is c.deref.ensures.value c.requires c.numbered_type.ensures
