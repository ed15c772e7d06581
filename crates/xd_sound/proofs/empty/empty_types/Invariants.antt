use Rattle.xd_sound.proofs.EmptyLemmas.{IsListed}
use Rattle.xd_sound.proofs.empty.empty_types.Given as goal

abbrev pub invariant-loop-at : goal.invariant-loop-at
invariant-loop-at l = IsListed l.marks.items l.waiting.items l.at
