use Rattle.std.proofs.Common.{◌≡◌, ◌++◌, take}
use Rattle.xd_eval.specs.Machine.{as_values}
use Rattle.xd_eval.proofs.resuming.inner_scope.Given as goal

abbrev pub invariant-loop-variable : goal.invariant-loop-variable
invariant-loop-variable l = l.made.items ≡ as_values (take l.variable-index l.bindings)

abbrev pub invariant-loop-variable-2 : goal.invariant-loop-variable-2
invariant-loop-variable-2 l = l.made.items ≡ as_values l.bindings ++ take l.variable-index l.others
