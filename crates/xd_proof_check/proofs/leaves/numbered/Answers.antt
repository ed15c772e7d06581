use Rattle.xd_proof_check.proofs.LeafLemmas.{copied_numbered}
use Rattle.xd_proof_check.proofs.leaves.numbered.Goals as goal

pub returns : goal.returns
returns g c = copied_numbered c.args.items.now c.args.number c.get.result c.if-number-eq0.false c.get.ensures.lookup.3
