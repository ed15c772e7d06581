use Rattle.std.proofs.Common.{◌≡◌, ◌++◌, map, take}
use Rattle.xd_syntax.specs.declared.program.Param.{Param}
use Rattle.xd_check_steps.proofs.signatures.push_declared.Given as goal

abbrev pub invariant-loop-param : goal.invariant-loop-param
invariant-loop-param l = l.types.items ≡ l.initial.types.items ++ map (λ (q : Param). q.body) (take l.param-index l.param-items)
