use Rattle.std.proofs.Common.{◌≡◌, drop}
use Rattle.xd_eval.specs.Machine.{found_in}
use Rattle.xd_eval.proofs.entering.looked_up.Given as goal

abbrev pub invariant-loop-variable : goal.invariant-loop-variable
invariant-loop-variable l = found_in l.scope l.name ≡ found_in (drop l.variable-index l.scope) l.name
