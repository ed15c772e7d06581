use Rattle.std.proofs.Common.{ℕ, ◌+◌, ◌<◌, arith, List, ◌++◌, flat_map, drop, get_or, ap, ◌∙◌}
use Rattle.xd_syntax.specs.Patterns.{pattern_numbers}
use Rattle.xd_syntax.specs.PlacedTable.{placed_at}
use Rattle.xd_syntax.specs.Placed.{variables}
use Rattle.xd_syntax.specs.declared.patterns.PatternId.{PatternId}
use Rattle.xd_names.proofs.TreeLemmas.{part_step, parts_step, variables_done}
use Rattle.xd_names.proofs.linear.+push_variables.Goals as goal

pub returns-after-loop-part : goal.returns-after-loop-part
returns-after-loop-part t c =
    variables_done (λ (id : PatternId). id.at) _ c.args.patterns.now _ c.view-node.result.place c.view-node.result.form c.view-node.result.parts.now c.loop-part.part-index _ _
    c.view-node.ensures.node c.view-node.ensures.parts c.in_default.not-Val c.loop-part-test.false c.loop-part.invariant.found

pub push_variables-requires-in-loop-part : goal.push_variables-requires-in-loop-part
push_variables-requires-in-loop-part t c =
    let first : PatternId = record { at = 0 } in
    let older : (get_or c.view-node.result.parts.now c.loop-part.part-index first).at < c.args.id.at
    = (parts_step (λ j. j < c.args.id.at) (λ (id : PatternId). id.at) c.view-node.result.parts.now c.loop-part.part-index first c.loop-part-test.true c.loop-part.invariant.older).0 in
    (omega arith, omega arith)

pub loop-part-preserved : goal.loop-part-preserved
loop-part-preserved t c =
    let V : ℕ → List (List ℕ) = λ j. variables (placed_at c.args.patterns.now j) in
    let xs = c.view-node.result.parts.now in
    let i : ℕ = c.loop-part.part-index in
    let first : PatternId = record { at = 0 } in
    record {
      found = ap (λ vs. vs ++ flat_map V (pattern_numbers (drop (i + 1) xs))) c.in_ok-push_variables-in_default.ensures
          ∙ part_step (λ (id : PatternId). id.at) V xs i first c.loop-part.found.items _ c.loop-part-test.true c.loop-part.invariant.found;
      older = (parts_step (λ j. j < c.args.id.at) (λ (id : PatternId). id.at) xs i first c.loop-part-test.true c.loop-part.invariant.older).1;
    }
