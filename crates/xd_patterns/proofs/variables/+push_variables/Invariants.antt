use Rattle.std.proofs.Common.{◌≡◌, ◌++◌, ◌<◌, drop, flat_map}
use Rattle.std.specs.List.{AllByRecursion}
use Rattle.xd_syntax.specs.Patterns.{pattern_numbers}
use Rattle.xd_syntax.specs.PlacedTable.{placed_at}
use Rattle.xd_syntax.specs.Placed.{variables}
use Rattle.xd_patterns.proofs.variables.+push_variables.Given as goal

abbrev pub decreases-push_variables : goal.decreases-push_variables
decreases-push_variables l = l.id.at

abbrev pub invariant-loop-part : goal.invariant-loop-part
invariant-loop-part l = record {
  found : l.found.items ++ flat_map (λ i. variables (placed_at l.patterns i)) (pattern_numbers (drop l.part-index l.part-items))
      ≡ l.initial.found.items ++ flat_map (λ i. variables (placed_at l.patterns i)) (pattern_numbers l.part-items);
  older : AllByRecursion (λ i. i < l.fn.id.at) (pattern_numbers (drop l.part-index l.part-items));
}
