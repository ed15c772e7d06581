use Rattle.std.proofs.Common.{◌≡◌, ◌++◌, drop}
use Rattle.xd_eval.specs.Machine.{bound_values}
use Rattle.xd_eval.proofs.resuming.bind.Given as goal

abbrev pub invariant-loop-param : goal.invariant-loop-param
invariant-loop-param l = l.made.items ++ bound_values (drop l.param-index l.params) l.left ≡ bound_values l.params l.values
