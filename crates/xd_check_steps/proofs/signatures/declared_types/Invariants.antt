use Rattle.std.proofs.Common.{◌≡◌, ◌++◌, drop}
use Rattle.xd_check_steps.specs.Signed.{types_declared}
use Rattle.xd_check_steps.proofs.signatures.declared_types.Given as goal

abbrev pub invariant-loop-function : goal.invariant-loop-function
invariant-loop-function l = l.types.items ++ types_declared (drop l.function-index l.functions) ≡ types_declared l.functions
