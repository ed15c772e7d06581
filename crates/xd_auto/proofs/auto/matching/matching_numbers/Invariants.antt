use Rattle.std.proofs.Common.{take}
use Rattle.xd_auto.proofs.AreMatchingLemmas.{MatchNames}
use Rattle.xd_auto.proofs.auto.matching.matching_numbers.Given as goal

abbrev pub invariant-loop-name : goal.invariant-loop-name
invariant-loop-name g l = MatchNames g.N.Ord.cmp g.M.Step.takes_name l.moves (take l.name-index l.name-items) l.numbers.items
