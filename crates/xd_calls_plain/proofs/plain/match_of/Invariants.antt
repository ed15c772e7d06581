use Rattle.std.proofs.Common.{vec_len}
use Rattle.xd_calls_plain.proofs.plain.match_of.Given as goal

abbrev pub decreases-loop-clause : goal.decreases-loop-clause
decreases-loop-clause l = vec_len l.clauses
