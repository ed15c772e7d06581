use Rattle.std.proofs.Common.{take}
use Rattle.xd_meaning.specs.KeptFaults.{AllPaired}
use Rattle.xd_check_steps.specs.Clauses.{HasNumber}
use Rattle.xd_check_steps.proofs.clauses.numbers_among.Given as goal

abbrev pub invariant-loop-clause : goal.invariant-loop-clause
invariant-loop-clause l = AllPaired (HasNumber l.patterns) (take l.clause-index l.clauses) l.numbers.items
