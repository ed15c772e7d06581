use Rattle.std.proofs.Common.{◌++◌, ◌∷◌, ◌∙◌, [], ap}
use Rattle.xd_proof_check.proofs.atoms.listed.Goals as goal

pub loop-item-preserved : goal.loop-item-preserved
loop-item-preserved g c = c.in_ok-push.ensures.items ∙ ap (λ ts. ts ++ c.in-Some.item ∷ []) c.loop-item.invariant
