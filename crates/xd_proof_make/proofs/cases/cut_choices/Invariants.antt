use Rattle.std.proofs.Common.{◌<◌, take}
use Rattle.std.specs.List.{AllByRecursion}
use Rattle.xd_goals.specs.declared.table.Choice.{Choice}
use Rattle.xd_proof_make.proofs.cases.cut_choices.Given as goal

abbrev pub invariant-loop-index : goal.invariant-loop-index
invariant-loop-index l = AllByRecursion (λ (k : Choice). k.head < l.bound) (take l.index l.choices)
