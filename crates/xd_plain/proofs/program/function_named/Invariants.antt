use Rattle.std.proofs.Common.{◌≡◌, map, drop}
use Rattle.xd_syntax.specs.Program.{function_of}
use Rattle.xd_plain.specs.PlainPrograms.{function_definition_of}
use Rattle.xd_plain.proofs.program.function_named.Given as goal

abbrev pub invariant-loop-function : goal.invariant-loop-function
invariant-loop-function l =
    function_of (map function_definition_of l.functions) l.name ≡ function_of (map function_definition_of (drop l.function-index l.functions)) l.name
