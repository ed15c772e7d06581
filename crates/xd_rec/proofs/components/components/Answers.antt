use Rattle.std.proofs.Common.{arith, sym, subst}
use Rattle.std.proofs.Common.{Vec, Global}
use Rattle.xd_rec.specs.Components.{AreComponents}
use Rattle.xd_rec.specs.declared.components.Standing.{Standing}
use Rattle.xd_rec.proofs.IsSearchedLemmas.{are_components}
use Rattle.xd_rec.proofs.components.components.Goals as goal

pub returns : goal.returns
returns c =
    let s = c.loop-node.search in
    let i = c.loop-node.invariant in
    let t = c.loop-node-test.false in
    let e = c.len-node-end.ensures.count in
    subst (λ (v : Vec Standing Global). AreComponents c.args.graph.now v.items) (sym c.into_standing.ensures)
    (are_components c.args.graph.now s.standing.items s.path.items s.todo.items s.segments.items s.finished i.searched i.idle (λ v l. i.seen v (omega arith)))
