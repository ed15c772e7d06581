use Rattle.std.proofs.Common.{◌≡◌, ◌++◌, take}
use Rattle.xd_rec.specs.Faults.{faults_of, recurs, recursion_fault}
use Rattle.xd_rec.proofs.faults.add_faults.Given as goal

abbrev pub invariant-loop-top_use : goal.invariant-loop-top_use
invariant-loop-top_use l = record { found : l.faults.items ≡ l.initial.faults.items ++ faults_of (recurs l.recursion l.defs l.standing) (recursion_fault l.recursion) (take l.top_use-index l.uses) }
