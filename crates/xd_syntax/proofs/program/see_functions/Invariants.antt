use Rattle.std.proofs.Common.{drop}
use Rattle.std.specs.List.{AllByRecursion}
use Rattle.xd_syntax.specs.FunctionRow.{HasProperNames}
use Rattle.xd_syntax.proofs.program.see_functions.Given as goal

abbrev pub invariant-loop-function : goal.invariant-loop-function
invariant-loop-function l = AllByRecursion HasProperNames (drop l.function-index l.functions) → AllByRecursion HasProperNames l.functions
