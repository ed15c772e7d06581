use Rattle.std.proofs.Common.{◌≡◌, filter, nat_lt, take}
use Rattle.xd_boole.proofs.matching.below.Given as goal

abbrev pub invariant-loop-number : goal.invariant-loop-number
invariant-loop-number l = l.made.items ≡ filter (λ k. nat_lt k l.fn.bound) (take l.number-index l.numbers)
