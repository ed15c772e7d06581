use Rattle.std.proofs.Common.{arith, [], ◌∷◌, ◌++◌, take, ap, sym, subst, ◌∙◌}
use Rattle.std.proofs.lemmas.List.{take_more}
use Rattle.xd_rec.specs.Faults.{IsGraphOf}
use Rattle.xd_rec.specs.declared.uses.TopUse.{TopUse}
use Rattle.xd_rec.proofs.FaultLemmas.{graph_none, graph_more, owned_at}
use Rattle.xd_rec.proofs.faults.add_uses.Goals as goal

pub loop-top_use-init : goal.loop-top_use-init
loop-top_use-init c = record { graph = graph_none c.args.defs.now c.args.front_only c.args.graph.now c.requires.count c.requires.bare }

pub add_use-requires-clause-owner : goal.add_use-requires-clause-owner
add_use-requires-clause-owner c =
    let u = c.top_use-item.result in
    let o = owned_at c.args.defs.now c.args.uses.now c.requires.owned c.loop-top_use.top_use-index u c.loop-top_use-test.true in
    let e = ap (λ (x : TopUse). x.owner) c.top_use-item.is in
    let n = c.loop-top_use.invariant.graph.count in
    omega arith

pub loop-top_use-preserved : goal.loop-top_use-preserved
loop-top_use-preserved c =
    let us = c.args.uses.now in
    let k = c.loop-top_use.top_use-index in
    let u = c.top_use-item.result in
    let t = take_more us k u c.loop-top_use-test.true ∙ ap (λ x. take k us ++ x ∷ []) (sym c.top_use-item.is) in
    record {
      graph = subst (λ xs. IsGraphOf c.args.defs.now xs c.args.front_only c.add_use.new.graph) (sym t)
          (graph_more c.args.defs.now (take k us) u c.args.front_only c.loop-top_use.graph c.add_use.new.graph c.loop-top_use.invariant.graph c.in_ok-add_use.ensures);
    }
