use Rattle.xd_syntax.specs.declared.patterns.PatternId.{PatternId}
use Rattle.xd_patterns.proofs.VariableLemmas.{variables_done}
use Rattle.xd_patterns.proofs.variables.+push_variables.Goals as goal

pub returns-after-loop-part : goal.returns-after-loop-part
returns-after-loop-part t c =
    variables_done (λ (id : PatternId). id.at) _ c.args.patterns.now _ c.view-node.result.place c.view-node.result.form c.view-node.result.parts.now c.loop-part.part-index _ _
    c.view-node.ensures.node c.view-node.ensures.parts c.in_default.not-Val c.loop-part-test.false c.loop-part.invariant.found
