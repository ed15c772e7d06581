use Rattle.std.proofs.Common.{take}
use Rattle.xd_meaning.specs.KeptFaults.{AllPaired}
use Rattle.xd_clauses.specs.Cases.{HasOwnAutomaton}
use Rattle.xd_clauses.proofs.cases.apart.Given as goal

abbrev pub invariant-loop-given : goal.invariant-loop-given
invariant-loop-given l = AllPaired (HasOwnAutomaton l.auto') (take l.given-index l.givens) l.bindings.items
