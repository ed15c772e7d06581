use Rattle.std.proofs.Common.{◌≡◌, ◌++◌, map, drop}
use Rattle.xd_syntax.specs.NameFaults.{duplicates}
use Rattle.xd_names.specs.Spots.{param_spot}
use Rattle.xd_names.proofs.duplicates.in_params.Given as goal

abbrev pub invariant-loop-param : goal.invariant-loop-param
invariant-loop-param l =
    l.faults.items ++ duplicates l.seen (map param_spot (drop l.param-index l.params)) ≡ l.initial.faults.items ++ duplicates l.initial.seen (map param_spot l.params)
