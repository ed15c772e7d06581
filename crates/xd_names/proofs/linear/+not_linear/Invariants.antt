use Rattle.std.proofs.Common.{◌≡◌, not, ◌&&◌, ◌++◌, ◌<◌, ℕ, List, drop, map, flat_map}
use Rattle.std.specs.List.{AllByRecursion}
use Rattle.xd_syntax.specs.Words.{has_word}
use Rattle.xd_syntax.specs.Patterns.{pattern_numbers}
use Rattle.xd_syntax.specs.PlacedTable.{placed_at}
use Rattle.xd_syntax.specs.Placed.{variables}
use Rattle.xd_names.proofs.LinearLemmas.{seq_faults, alt_faults}
use Rattle.xd_names.proofs.linear.+not_linear.Given as goal

abbrev pub decreases-not_linear : goal.decreases-not_linear
decreases-not_linear l = l.id.at

abbrev pub invariant-loop-part : goal.invariant-loop-part
invariant-loop-part l = record {
  earlier : l.earlier ++ flat_map (λ i. variables (placed_at l.patterns i)) (pattern_numbers (drop l.part-index l.parts))
      ≡ l.initial.earlier ++ flat_map (λ i. variables (placed_at l.patterns i)) (pattern_numbers l.parts);
  partial : (w : List ℕ) → (not (has_word (flat_map (λ i. variables (placed_at l.patterns i)) (pattern_numbers (drop l.part-index l.parts))) w) && has_word l.partial w)
      ≡ (not (has_word (flat_map (λ i. variables (placed_at l.patterns i)) (pattern_numbers l.parts)) w) && has_word l.initial.partial w);
  faults : l.faults.items ++ seq_faults l.repeated l.earlier l.partial (map (placed_at l.patterns) (pattern_numbers (drop l.part-index l.parts)))
      ≡ l.initial.faults.items ++ seq_faults l.repeated l.initial.earlier l.initial.partial (map (placed_at l.patterns) (pattern_numbers l.parts));
  older : AllByRecursion (λ i. i < l.fn.id.at) (pattern_numbers (drop l.part-index l.parts));
}

abbrev pub invariant-loop-branch : goal.invariant-loop-branch
invariant-loop-branch l = record {
  earlier : l.earlier ≡ l.initial.earlier;
  partial : (w : List ℕ) → (not (has_word (flat_map (λ i. variables (placed_at l.patterns i)) (pattern_numbers (drop l.branch-index l.branches))) w) && has_word l.partial w)
      ≡ (not (has_word (flat_map (λ i. variables (placed_at l.patterns i)) (pattern_numbers l.branches)) w) && has_word l.initial.partial w);
  faults : l.faults.items ++ alt_faults l.repeated l.earlier l.partial (map (placed_at l.patterns) (pattern_numbers (drop l.branch-index l.branches)))
      ≡ l.initial.faults.items ++ alt_faults l.repeated l.initial.earlier l.initial.partial (map (placed_at l.patterns) (pattern_numbers l.branches));
  older : AllByRecursion (λ i. i < l.fn.id.at) (pattern_numbers (drop l.branch-index l.branches));
}
