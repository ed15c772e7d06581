use Rattle.std.proofs.Common.{◌∙◌, sym}
use Rattle.xd_stream.proofs.PlainBytes.{plain_next}
use Rattle.xd_stream.proofs.runs.text_run.Goals as goal

pub loop-i-preserved : goal.loop-i-preserved
loop-i-preserved c = plain_next c.args.bytes.now c.loop-i.i c.loop-i-test.true c.loop-i.invariant (sym c.is_plain.ensures ∙ c.if-not-is_plain.false)
