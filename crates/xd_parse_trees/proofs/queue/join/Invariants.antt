use Rattle.std.proofs.Common.{◌≡◌, ◌++◌, length}
use Rattle.xd_parse_trees.proofs.queue.join.Given as goal

abbrev pub invariant-fewer : goal.invariant-fewer
invariant-fewer g l = l.front.items ++ l.back.items ≡ l.fn.front.items ++ l.fn.back.items

abbrev pub decreases-fewer : goal.decreases-fewer
decreases-fewer g l = length l.front.items
