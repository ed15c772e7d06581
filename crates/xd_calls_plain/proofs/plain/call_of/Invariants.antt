use Rattle.std.proofs.Common.{vec_len}
use Rattle.xd_calls_plain.proofs.plain.call_of.Given as goal

abbrev pub decreases-loop-argument : goal.decreases-loop-argument
decreases-loop-argument l = vec_len l.arguments
