use Rattle.std.proofs.Common.{◌≡◌, ◌++◌, drop}
use Rattle.xd_match.specs.Matches.{named}
use Rattle.xd_match.proofs.matcher.with_names.Given as goal

abbrev pub invariant-loop-variable : goal.invariant-loop-variable
invariant-loop-variable l = l.pairs.items ++ named (drop l.variable-index l.variables) l.left ≡ named l.variables l.bound
