use Rattle.std.proofs.Common.{◌≡◌, ◌++◌, ◌<◌, drop, flat_map}
use Rattle.std.specs.List.{AllByRecursion}
use Rattle.xd_syntax.specs.Matches.{variable_spots}
use Rattle.xd_syntax.specs.Patterns.{pattern_numbers}
use Rattle.xd_syntax.specs.PlacedTable.{placed_at}
use Rattle.xd_variables.specs.Binders.{spots_of}
use Rattle.xd_variables.proofs.binders.+push_binders.Given as goal

abbrev pub decreases-push_binders : goal.decreases-push_binders
decreases-push_binders l = l.id.at

abbrev pub invariant-loop-part : goal.invariant-loop-part
invariant-loop-part l = record {
  found : spots_of l.found.items ++ flat_map (λ i. variable_spots (placed_at l.patterns i)) (pattern_numbers (drop l.part-index l.part-items))
      ≡ spots_of l.initial.found.items ++ flat_map (λ i. variable_spots (placed_at l.patterns i)) (pattern_numbers l.part-items);
  older : AllByRecursion (λ i. i < l.fn.id.at) (pattern_numbers (drop l.part-index l.part-items));
}
