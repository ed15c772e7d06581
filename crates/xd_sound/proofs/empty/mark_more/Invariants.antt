use Rattle.std.proofs.Common.{◌≡◌, length}
use Rattle.xd_sound.specs.Emptiness.{AreEmptySoFar}
use Rattle.xd_sound.proofs.empty.mark_more.Given as goal

abbrev pub invariant-loop-at : goal.invariant-loop-at
invariant-loop-at l = record {
  count : length l.marks.items ≡ l.at;
  marked : AreEmptySoFar l.types l.defs l.marks.items;
}
