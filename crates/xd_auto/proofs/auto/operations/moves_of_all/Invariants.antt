use Rattle.std.proofs.Common.{take}
use Rattle.xd_auto.specs.Copying.{AreUnited}
use Rattle.xd_auto.proofs.auto.operations.moves_of_all.Given as goal

abbrev pub invariant-loop-state : goal.invariant-loop-state
invariant-loop-state l = AreUnited l.auto' (take l.state-index l.states) l.made
