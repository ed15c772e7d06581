use Rattle.std.proofs.Common.{◌≡◌, map, take}
use Rattle.xd_syntax.specs.declared.exprs.Clause.{Clause}
use Rattle.xd_calls_clauses.proofs.clauses.patterns_of.Given as goal

abbrev pub invariant-loop-clause : goal.invariant-loop-clause
invariant-loop-clause l = l.patterns.items ≡ map (λ (c : Clause). c.pattern) (take l.clause-index l.clauses)
