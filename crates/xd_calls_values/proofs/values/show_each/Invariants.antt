use Rattle.xd_match.specs.Serving.{Serves}
use Rattle.xd_calls_values.proofs.values.show_each.Given as goal

abbrev pub invariant-loop-document : goal.invariant-loop-document
invariant-loop-document l = Serves l.checked l.store l.matchers
