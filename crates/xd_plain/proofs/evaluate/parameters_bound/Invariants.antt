use Rattle.std.proofs.Common.{◌≡◌, ◌++◌, map, drop}
use Rattle.xd_meaning.specs.Meaning.{bound}
use Rattle.xd_plain.specs.PlainWays.{bindings_of}
use Rattle.xd_plain.specs.PlainPrograms.{parameter_of}
use Rattle.xd_plain.specs.PlainMeaning.{documents_of}
use Rattle.xd_plain.proofs.evaluate.parameters_bound.Given as goal

abbrev pub invariant-loop-parameter : goal.invariant-loop-parameter
invariant-loop-parameter l =
    bindings_of l.made.items ++ bound (map parameter_of (drop l.parameter-index l.parameters)) (documents_of l.left)
    ≡ bound (map parameter_of l.parameters) (documents_of l.documents)
