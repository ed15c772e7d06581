use Rattle.std.proofs.Common.{◌≡◌, ◌++◌, flat_map, drop}
use Rattle.std.specs.List.{AllByRecursion}
use Rattle.xd_syntax.specs.FunctionRow.{FunctionRow}
use Rattle.xd_syntax.specs.Kept.{FunctionStands, function_definition}
use Rattle.xd_syntax.specs.NameFaults.{function_faults}
use Rattle.xd_names.specs.Knows.{whole}
use Rattle.xd_names.proofs.program.in_bodies.Given as goal

abbrev pub invariant-loop-function : goal.invariant-loop-function
invariant-loop-function l = record {
  faults : l.faults.items ++ flat_map (λ (f : FunctionRow). function_faults (whole l.program) (function_definition l.program f)) (drop l.function-index l.functions)
      ≡ l.initial.faults.items ++ flat_map (λ (f : FunctionRow). function_faults (whole l.program) (function_definition l.program f)) l.functions;
  stand : AllByRecursion (FunctionStands l.program.types l.program.exprs) (drop l.function-index l.functions);
}
