use Rattle.std.proofs.Common.{◌≡◌, ◌++◌, take}
use Rattle.xd_moves.specs.Codes.{code_names}
use Rattle.xd_moves.proofs.codes.push_labels.Given as goal

abbrev pub invariant-loop-label : goal.invariant-loop-label
invariant-loop-label l = l.code.items ≡ l.initial.code.items ++ code_names (take l.label-index l.labels)
