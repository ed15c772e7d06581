use Rattle.std.proofs.Common.{◌+◌, ◌++◌, sym, ap, ◌∙◌}
use Rattle.xd_proof_write.specs.Written.{type_line}
use Rattle.xd_proof_write.proofs.NumberLemmas.{lines_more}
use Rattle.xd_proof_write.proofs.numbers.Numbers.write_types.Goals as goal

pub loop-i-preserved : goal.loop-i-preserved
loop-i-preserved c =
    lines_more (λ text. text.items) c.as_slice-texts.result.now c.loop-i.i c.index-texts-i.result _ _ _ c.loop-i-test.true (sym c.index-texts-i.is) c.loop-i.invariant
    (c.in_ok-write_type_line.ensures ∙ ap (λ t. c.loop-i.out.items ++ type_line (c.loop-i.i + 1) t) c.deref.ensures.value)
