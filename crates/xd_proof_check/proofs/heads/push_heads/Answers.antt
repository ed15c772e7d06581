use Rattle.std.proofs.Common.{◌++◌, ◌∷◌, ◌∙◌, [], ap, append_assoc}
use Rattle.xd_proof_check.proofs.heads.push_heads.Goals as goal

pub loop-head-preserved : goal.loop-head-preserved
loop-head-preserved c = c.in_ok-push.ensures.items ∙ ap (λ hs. hs ++ c.in-Some.head ∷ []) c.loop-head.invariant ∙ append_assoc c.args.made.now.items c.loop-head.yielded (c.in-Some.head ∷ [])
