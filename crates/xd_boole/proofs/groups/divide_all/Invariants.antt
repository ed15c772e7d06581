use Rattle.std.proofs.Common.{vec_len}
use Rattle.xd_doc.specs.Classes.{class_has}
use Rattle.xd_boole.proofs.DividesLemmas.{DividesFirst}
use Rattle.xd_boole.proofs.groups.divide_all.Given as goal

abbrev pub invariant-loop-group : goal.invariant-loop-group
invariant-loop-group l = DividesFirst class_has l.step.words l.step.rest l.initial.groups.items l.divided.items l.groups.items

abbrev pub decreases-loop-group : goal.decreases-loop-group
decreases-loop-group l = vec_len l.groups
