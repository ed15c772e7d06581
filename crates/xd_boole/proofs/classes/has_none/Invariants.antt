use Rattle.std.proofs.Common.{false, take}
use Rattle.xd_boole.proofs.ClassLemmas.{AllNamed}
use Rattle.xd_boole.proofs.classes.has_none.Given as goal

abbrev pub invariant-loop-name : goal.invariant-loop-name
invariant-loop-name l = AllNamed l.class false (take l.name-index l.names)
