use Rattle.xd_least.specs.Least.{Knows}
use Rattle.xd_variables.specs.Bound.{reading_of}
use Rattle.xd_variables.proofs.MatchLoop.{MatchesRead}
use Rattle.xd_variables.proofs.reader.Reader.read_matches.Given as goal

abbrev pub invariant-loop-met : goal.invariant-loop-met
invariant-loop-met l = record {
  read : MatchesRead (reading_of l.self.ways) l.self.sound l.initial.auto' l.auto' l.initial.found.variables.items l.found.variables.items l.matches l.met-index;
  known : Knows l.auto' l.found.store l.found.inhabitants;
}
