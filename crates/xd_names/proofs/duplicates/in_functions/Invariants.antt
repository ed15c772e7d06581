use Rattle.std.proofs.Common.{◌≡◌, ◌++◌, map, drop}
use Rattle.xd_syntax.specs.NameFaults.{duplicates}
use Rattle.xd_names.specs.Spots.{function_spot}
use Rattle.xd_names.proofs.duplicates.in_functions.Given as goal

abbrev pub invariant-loop-function : goal.invariant-loop-function
invariant-loop-function l =
    l.faults.items ++ duplicates l.seen (map function_spot (drop l.function-index l.functions)) ≡ l.initial.faults.items ++ duplicates l.initial.seen (map function_spot l.functions)
