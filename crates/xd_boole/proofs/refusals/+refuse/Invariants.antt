use Rattle.std.proofs.Common.{◌+◌, length}
use Rattle.xd_boole.proofs.refusals.+refuse.Given as goal

abbrev pub decreases-refuse : goal.decreases-refuse
decreases-refuse l = l.depth + length l.moves.now
