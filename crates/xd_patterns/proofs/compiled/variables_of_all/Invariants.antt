use Rattle.std.proofs.Common.{◌≡◌, take}
use Rattle.std.specs.List.{AllByRecursion}
use Rattle.xd_patterns.specs.CompiledProgram.{AreWithin, each_variables, variables_of_patterns}
use Rattle.xd_patterns.proofs.compiled.variables_of_all.Given as goal

abbrev pub invariant-loop-id : goal.invariant-loop-id
invariant-loop-id l = record {
  each : each_variables l.each.items ≡ variables_of_patterns l.patterns (take l.id-index l.ids);
  all : AllByRecursion (AreWithin l.all.keys) (variables_of_patterns l.patterns (take l.id-index l.ids));
}
