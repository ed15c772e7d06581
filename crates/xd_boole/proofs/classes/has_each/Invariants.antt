use Rattle.std.proofs.Common.{true, take}
use Rattle.xd_boole.proofs.ClassLemmas.{AllNamed}
use Rattle.xd_boole.proofs.classes.has_each.Given as goal

abbrev pub invariant-loop-name : goal.invariant-loop-name
invariant-loop-name l = AllNamed l.class true (take l.name-index l.names)
