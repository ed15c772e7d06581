use Rattle.std.proofs.Common.{take}
use Rattle.xd_stream.specs.Pairs.{TakesEveryText}
use Rattle.xd_stream.proofs.pairs.takes_every_text.Given as goal

abbrev pub invariant-loop-pair : goal.invariant-loop-pair
invariant-loop-pair l = TakesEveryText l.auto' (take l.pair-index l.now)
