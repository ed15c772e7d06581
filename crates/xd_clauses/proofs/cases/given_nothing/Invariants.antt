use Rattle.std.proofs.Common.{take}
use Rattle.xd_meaning.specs.KeptFaults.{AllPaired}
use Rattle.xd_clauses.specs.Cases.{IsGivenNothing}
use Rattle.xd_clauses.proofs.cases.given_nothing.Given as goal

abbrev pub invariant-loop-variable : goal.invariant-loop-variable
invariant-loop-variable l = AllPaired (IsGivenNothing l.auto') (take l.variable-index l.variables) l.givens.items
