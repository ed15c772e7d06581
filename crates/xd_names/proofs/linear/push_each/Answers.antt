use Rattle.std.proofs.Common.{ℕ, ◌+◌, ◌<◌, List, ◌++◌, flat_map, length, drop, ap, ◌∙◌}
use Rattle.xd_syntax.specs.Patterns.{pattern_numbers}
use Rattle.xd_syntax.specs.PlacedTable.{placed_at}
use Rattle.xd_syntax.specs.Placed.{variables}
use Rattle.xd_syntax.specs.declared.patterns.PatternId.{PatternId}
use Rattle.xd_names.proofs.TreeLemmas.{part_step, parts_step}
use Rattle.xd_names.proofs.linear.push_each.Goals as goal

pub push_variables-requires : goal.push_variables-requires
push_variables-requires c =
    (parts_step (λ j. j < length c.args.patterns.now) (λ (id : PatternId). id.at) c.args.parts.now c.loop-part.part-index _ c.loop-part-test.true c.loop-part.invariant.there).0

pub loop-part-preserved : goal.loop-part-preserved
loop-part-preserved c =
    let V : ℕ → List (List ℕ) = λ j. variables (placed_at c.args.patterns.now j) in
    let xs = c.args.parts.now in
    let i : ℕ = c.loop-part.part-index in
    let first : PatternId = record { at = 0 } in
    record {
      found = ap (λ vs. vs ++ flat_map V (pattern_numbers (drop (i + 1) xs))) c.in_ok-push_variables.ensures
          ∙ part_step (λ (id : PatternId). id.at) V xs i first c.loop-part.found.items _ c.loop-part-test.true c.loop-part.invariant.found;
      there = (parts_step (λ j. j < length c.args.patterns.now) (λ (id : PatternId). id.at) xs i first c.loop-part-test.true c.loop-part.invariant.there).1;
    }
