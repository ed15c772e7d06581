use Rattle.std.proofs.Common.{vec_len}
use Rattle.xd_calls_plain.proofs.plain.sequence.Given as goal

abbrev pub decreases-loop-part : goal.decreases-loop-part
decreases-loop-part l = vec_len l.parts
