use Rattle.std.proofs.Common.{◌∙◌, sym}
use Rattle.xd_stream.proofs.PlainBytes.{parts_next}
use Rattle.xd_stream.proofs.runs.word_run.Goals as goal

pub loop-i-preserved : goal.loop-i-preserved
loop-i-preserved c = parts_next c.args.bytes.now c.loop-i.i c.loop-i-test.true c.loop-i.invariant (sym c.is_word_part.ensures ∙ c.if-not-is_word_part.false)
