use Rattle.xd_same_types.proofs.Ids.{on_map}
use Rattle.xd_same_types.proofs.Laws.{same_then}
use Rattle.xd_same_types.proofs.seqs.push_part.Goals as goal

pub returns-clause-same : goal.returns-clause-same
returns-clause-same c =
    on_map c.gather_back.result _ _ (λ s. same_then s (same_then c.in_ok-push_fused.ensures.same c.in_ok-part.ensures.same)) c.gather_back.ensures.same
