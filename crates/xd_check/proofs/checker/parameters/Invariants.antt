use Rattle.std.proofs.Common.{◌≡◌, drop}
use Rattle.xd_check_steps.specs.InScope.{parameters_in_scope}
use Rattle.xd_check.proofs.checker.parameters.Given as goal

abbrev pub invariant-loop-number : goal.invariant-loop-number
invariant-loop-number l = l.variables ≡ parameters_in_scope (drop l.number l.params) (drop l.number l.states)
