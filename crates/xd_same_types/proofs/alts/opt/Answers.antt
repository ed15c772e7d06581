use Rattle.xd_same_types.proofs.Ids.{ok_map}
use Rattle.xd_same_types.proofs.Laws.{same_then, same_of}
use Rattle.xd_same_types.proofs.AltLaws.{opt_plus}
use Rattle.xd_same_types.proofs.alts.opt.Goals as goal

pub returns-in-Some-clause-same : goal.returns-in-Some-clause-same
returns-in-Some-clause-same c = ok_map c.node.result _ _ (λ id e. same_then (same_of e) (opt_plus _ _ c.in-Some.ensures.plus)) c.node.ensures.tree
