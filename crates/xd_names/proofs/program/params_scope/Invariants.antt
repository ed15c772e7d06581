use Rattle.std.proofs.Common.{◌≡◌, ◌++◌, map, drop}
use Rattle.xd_syntax.specs.declared.program.Param.{Param}
use Rattle.xd_names.proofs.program.params_scope.Given as goal

abbrev pub invariant-loop-param : goal.invariant-loop-param
invariant-loop-param l = l.scope ++ map (λ (q : Param). q.name) (drop l.param-index l.params) ≡ map (λ (q : Param). q.name) l.params
