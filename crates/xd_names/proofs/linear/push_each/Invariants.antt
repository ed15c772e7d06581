use Rattle.std.proofs.Common.{◌≡◌, ◌++◌, ◌<◌, drop, flat_map, length}
use Rattle.std.specs.List.{AllByRecursion}
use Rattle.xd_syntax.specs.Patterns.{pattern_numbers}
use Rattle.xd_syntax.specs.PlacedTable.{placed_at}
use Rattle.xd_syntax.specs.Placed.{variables}
use Rattle.xd_names.proofs.linear.push_each.Given as goal

abbrev pub invariant-loop-part : goal.invariant-loop-part
invariant-loop-part l = record {
  found : l.found.items ++ flat_map (λ i. variables (placed_at l.patterns i)) (pattern_numbers (drop l.part-index l.parts))
      ≡ l.initial.found.items ++ flat_map (λ i. variables (placed_at l.patterns i)) (pattern_numbers l.parts);
  there : AllByRecursion (λ i. i < length l.patterns) (pattern_numbers (drop l.part-index l.parts));
}
