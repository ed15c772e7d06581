use Rattle.std.proofs.Common.{◌<◌, drop, map}
use Rattle.std.specs.List.{AllByRecursion}
use Rattle.xd_calls_programs.proofs.trees.+show_node.Given as goal

abbrev pub decreases-show_node : goal.decreases-show_node
decreases-show_node g l = g.N.Nodes.at l.id

abbrev pub invariant-loop-part : goal.invariant-loop-part
invariant-loop-part g l = AllByRecursion (λ i. i < g.N.Nodes.at l.fn.id) (map g.N.Nodes.at (drop l.part-index l.part-items))
