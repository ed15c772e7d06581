use Rattle.xd_match.specs.Serving.{Serves}
use Rattle.xd_calls_clauses.proofs.patterns.show_ways.Given as goal

abbrev pub invariant-loop-document : goal.invariant-loop-document
invariant-loop-document l = Serves l.sound l.store l.matchers
