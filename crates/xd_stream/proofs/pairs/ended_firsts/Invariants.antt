use Rattle.std.proofs.Common.{take}
use Rattle.xd_stream.specs.Pairs.{HasEnded}
use Rattle.xd_stream.proofs.pairs.ended_firsts.Given as goal

abbrev pub invariant-loop-pair : goal.invariant-loop-pair
invariant-loop-pair l = HasEnded l.auto' (take l.pair-index l.pairs) l.into.items
