use Rattle.std.proofs.Common.{false, take}
use Rattle.xd_boole.proofs.ClassLemmas.{AllNamed}
use Rattle.xd_boole.proofs.classes.has_no_text.Given as goal

abbrev pub invariant-loop-text : goal.invariant-loop-text
invariant-loop-text l = AllNamed l.words false (take l.text-index l.texts)
