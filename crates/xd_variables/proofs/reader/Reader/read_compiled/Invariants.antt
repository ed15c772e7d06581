use Rattle.xd_least.specs.Least.{Knows}
use Rattle.xd_variables.specs.Bound.{reading_of}
use Rattle.xd_variables.proofs.ClauseLoop.{ClausesRead}
use Rattle.xd_variables.proofs.reader.Reader.read_compiled.Given as goal

abbrev pub invariant-loop-number : goal.invariant-loop-number
invariant-loop-number l = record {
  read : ClausesRead (reading_of l.self.ways) l.self.sound l.compiled.patterns.now l.initial.auto' l.auto' l.initial.found.variables.items l.found.variables.items l.compiled.clauses.now l.number l.fn.scrutinee l.remaining;
  known : Knows l.auto' l.found.store l.found.inhabitants;
}
