use Rattle.std.proofs.Common.{◌≡◌, [], ◌++◌, map, flat_map, drop}
use Rattle.xd_syntax.specs.FunctionRow.{FunctionRow}
use Rattle.xd_syntax.specs.NameFaults.{duplicates}
use Rattle.xd_names.specs.Spots.{param_spot}
use Rattle.xd_names.proofs.program.duplicated_params.Given as goal

abbrev pub invariant-loop-function : goal.invariant-loop-function
invariant-loop-function l =
    l.faults.items ++ flat_map (λ (f : FunctionRow). duplicates [] (map param_spot f.params)) (drop l.function-index l.functions)
    ≡ l.initial.faults.items ++ flat_map (λ (f : FunctionRow). duplicates [] (map param_spot f.params)) l.functions
