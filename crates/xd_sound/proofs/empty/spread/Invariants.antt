use Rattle.xd_sound.specs.Emptiness.{IsMarking}
use Rattle.xd_sound.proofs.EmptyLemmas.{visits_left}
use Rattle.xd_sound.proofs.empty.spread.Given as goal

abbrev pub invariant-loop-at : goal.invariant-loop-at
invariant-loop-at l = IsMarking l.types l.defs l.marks.items l.waiting.items

abbrev pub decreases-loop-at : goal.decreases-loop-at
decreases-loop-at l = visits_left l.marks.items l.waiting.items
