use Rattle.std.proofs.Common.{◌≡◌, ◌++◌, ◌<◌, drop, flat_map, map}
use Rattle.std.specs.List.{AllByRecursion}
use Rattle.xd_syntax.specs.PlacedTable.{placed_at}
use Rattle.xd_syntax.specs.NameFaults.{unknown_types}
use Rattle.xd_names.proofs.types.+in_tree.Given as goal

abbrev pub decreases-in_tree : goal.decreases-in_tree
decreases-in_tree g l = g.N.Nodes.at l.id

abbrev pub invariant-loop-part : goal.invariant-loop-part
invariant-loop-part g l = record {
  faults : l.faults.items ++ flat_map (λ i. unknown_types l.known (placed_at (g.N.Nodes.rows l.nodes) i)) (map g.N.Nodes.at (drop l.part-index l.part-items))
      ≡ l.initial.faults.items ++ flat_map (λ i. unknown_types l.known (placed_at (g.N.Nodes.rows l.nodes) i)) (map g.N.Nodes.at l.part-items);
  older : AllByRecursion (λ i. i < g.N.Nodes.at l.fn.id) (map g.N.Nodes.at (drop l.part-index l.part-items));
}
