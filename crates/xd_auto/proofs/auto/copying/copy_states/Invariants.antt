use Rattle.std.proofs.Common.{take}
use Rattle.xd_auto.specs.Copying.{AreStateCopies, copies_in}
use Rattle.xd_auto.proofs.auto.copying.copy_states.Given as goal

abbrev pub invariant-loop-state : goal.invariant-loop-state
invariant-loop-state l = AreStateCopies l.auto' (copies_in l.contents) (copies_in l.rests) l.tail (take l.state-index l.order) l.made.items
