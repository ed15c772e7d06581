use Rattle.std.proofs.Common.{◌++◌, drop, ◌+◌, ℕ, refl, ap, ◌∙◌}
use Rattle.xd_plain.specs.PlainDocuments.{document_of}
use Rattle.xd_plain.specs.PlainWays.{bindings_of}
use Rattle.xd_plain.proofs.PlainLoops.{item_step, items_done}
use Rattle.xd_plain.proofs.ways.push_bindings.Goals as goal

pub loop-binding-preserved : goal.loop-binding-preserved
loop-binding-preserved c =
    let x = c.binding-item.result in
    let xs = c.args.bindings.now in
    let i : ℕ = c.loop-binding.binding-index in
    ap (λ bs. bs ++ bindings_of (drop (i + 1) xs)) c.in_ok-push_binding.ensures
    ∙ item_step bindings_of (x.variable, document_of x.document) xs i x (bindings_of c.loop-binding.made.items) _ c.loop-binding-test.true c.binding-item.is refl c.loop-binding.invariant

pub returns : goal.returns
returns c = items_done bindings_of c.args.bindings.now c.loop-binding.binding-index _ _ refl c.loop-binding-test.false c.loop-binding.invariant
