use Rattle.std.proofs.Common.{◌≡◌, ◌<◌, ◌&&◌, ℕ, List, drop, length}
use Rattle.std.specs.List.{AllByRecursion, list_all}
use Rattle.xd_syntax.specs.Words.{has_word}
use Rattle.xd_syntax.specs.Patterns.{pattern_numbers}
use Rattle.xd_syntax.specs.PlacedTable.{placed_at}
use Rattle.xd_syntax.specs.Placed.{variables}
use Rattle.xd_names.proofs.linear.in_each.Given as goal

abbrev pub invariant-loop-branch : goal.invariant-loop-branch
invariant-loop-branch l = record {
  common : (w : List ℕ) → (list_all (λ i. has_word (variables (placed_at l.patterns i)) w) (pattern_numbers (drop l.branch-index l.branches)) && has_word l.common w)
      ≡ (list_all (λ i. has_word (variables (placed_at l.patterns i)) w) (pattern_numbers l.branches) && has_word l.words w);
  there : AllByRecursion (λ i. i < length l.patterns) (pattern_numbers (drop l.branch-index l.branches));
}
