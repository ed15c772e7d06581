use Rattle.xd_names.proofs.TreeLemmas.{uses_done}
use Rattle.xd_names.proofs.types.+in_tree.Goals as goal

pub returns-after-loop-part : goal.returns-after-loop-part
returns-after-loop-part g t c =
    uses_done g.N.Nodes.at _ g.N.Nodes.binders (g.N.Nodes.rows c.args.nodes.now) _ c.view-node.result.place c.view-node.result.form c.view-node.result.parts.now c.loop-part.part-index _ _
    c.view-node.ensures.node c.view-node.ensures.parts c.in_default.not-Name c.loop-part-test.false c.loop-part.invariant.faults
