use Rattle.std.proofs.Common.{◌≡◌, length}
use Rattle.xd_calls_clauses.proofs.tracks.tracked.Given as goal

abbrev pub invariant-loop-variable : goal.invariant-loop-variable
invariant-loop-variable l = length l.variables.items ≡ l.variable-index
