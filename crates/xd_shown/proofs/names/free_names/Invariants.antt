use Rattle.std.proofs.Common.{◌+◌, ◌-◌, length, vec_len}
use Rattle.xd_shown.proofs.NamingSteps.{IsNaming}
use Rattle.xd_shown.proofs.names.free_names.Given as goal

abbrev pub invariant-numbers : goal.invariant-numbers
invariant-numbers l = IsNaming l.taken l.number l.count (vec_len l.words) (length l.initial.left.keys) l.left.keys l.words.items

abbrev pub decreases-numbers : goal.decreases-numbers
decreases-numbers l = (l.count - vec_len l.words) + length l.left.keys
