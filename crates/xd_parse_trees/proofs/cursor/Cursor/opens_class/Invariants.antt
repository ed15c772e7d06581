use Rattle.std.proofs.Common.{length}
use Rattle.xd_parse_trees.proofs.Ahead.{BothReadings}
use Rattle.xd_parse_trees.proofs.cursor.Cursor.opens_class.Given as goal

abbrev pub invariant-tokens : goal.invariant-tokens
invariant-tokens l = BothReadings l.fn.sort l.reading l.fn.self l.ahead

abbrev pub decreases-tokens : goal.decreases-tokens
decreases-tokens l = length l.ahead
