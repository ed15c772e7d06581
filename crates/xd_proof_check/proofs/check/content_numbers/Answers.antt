use Rattle.std.proofs.Common.{◌++◌, ◌∷◌, ◌∙◌, [], ap, map, sym}
use Rattle.std.proofs.lemmas.List.{take_all}
use Rattle.xd_doc.proofs.Lists.{map-take_more}
use Rattle.xd_heads.specs.declared.lister.NumberedHead.{NumberedHead}
use Rattle.xd_proof_check.proofs.check.content_numbers.Goals as goal

pub loop-head-preserved : goal.loop-head-preserved
loop-head-preserved c = c.in_ok-push.ensures.items ∙ ap (λ ns. ns ++ c.head-item.result.content ∷ []) c.loop-head.invariant ∙ sym (map-take_more (λ (h : NumberedHead). h.content) c.args.heads.now c.loop-head.head-index c.head-item.result c.loop-head-test.true c.head-item.is)

pub returns : goal.returns
returns c = c.loop-head.invariant ∙ ap (map (λ (h : NumberedHead). h.content)) (take_all c.loop-head.head-index c.args.heads.now c.loop-head-test.false)
