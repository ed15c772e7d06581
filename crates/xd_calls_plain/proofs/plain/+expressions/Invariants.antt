use Rattle.std.proofs.Common.{◌+◌, ◌*◌}
use Rattle.xd_calls_plain.proofs.plain.+expressions.Given as goal

abbrev pub decreases-plain_expr : goal.decreases-plain_expr
decreases-plain_expr l = 2 * l.id.at + 1

abbrev pub decreases-plain_parts : goal.decreases-plain_parts
decreases-plain_parts l = 2 * l.whole.at

abbrev pub decreases-plain_clauses : goal.decreases-plain_clauses
decreases-plain_clauses l = 2 * l.whole.at
