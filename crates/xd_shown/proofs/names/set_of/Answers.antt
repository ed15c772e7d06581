use Rattle.std.proofs.Common.{arith}
use Rattle.xd_shown.proofs.NamingSteps.{one_added}
use Rattle.xd_shown.proofs.names.set_of.Goals as goal

pub loop-word-preserved : goal.loop-word-preserved
loop-word-preserved c =
    one_added c.args.words.now c.loop-word.word-index c.word-item.result c.in_ok-share.field-0 c.loop-word.made.keys c.insert.new.self.keys c.loop-word.invariant (omega arith) c.word-item.is
    c.in_ok-share.ensures c.in_ok-insert.ensures.updates.0
