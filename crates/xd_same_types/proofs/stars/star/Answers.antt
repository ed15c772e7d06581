use Rattle.std.proofs.Common.{ap, ◌∙◌}
use Rattle.xd_syntax.specs.Tree.{Star}
use Rattle.xd_same_types.proofs.Ids.{ok_map}
use Rattle.xd_same_types.proofs.Laws.{same_then, same_of}
use Rattle.xd_same_types.proofs.stars.star.Goals as goal

pub returns-clause-same : goal.returns-clause-same
returns-clause-same c =
    ok_map c.node.result _ _ (λ id e. same_then (same_of (e ∙ ap Star c.in_ok-body.ensures.tree)) c.in_ok-parts.ensures.same) c.node.ensures.tree
