use Rattle.std.proofs.Common.{◌-◌, length}
use Rattle.xd_auto.proofs.AreMatchingLemmas.{AddsBefore}
use Rattle.xd_auto.proofs.auto.matching.add_matching.Given as goal

abbrev pub invariant-loop-number : goal.invariant-loop-number
invariant-loop-number g l = AddsBefore g.M.Step.takes_name l.moves l.name l.number l.initial.numbers.items l.numbers.items

abbrev pub decreases-loop-number : goal.decreases-loop-number
decreases-loop-number g l = length l.moves - l.number
