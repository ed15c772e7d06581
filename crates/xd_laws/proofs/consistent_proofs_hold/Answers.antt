use Rattle.xd_laws.proofs.TheLaws.{consistent_proofs_hold_in}
use Rattle.xd_laws.proofs.consistent_proofs_hold.Goals as goal

pub returns : goal.returns
returns c = consistent_proofs_hold_in
