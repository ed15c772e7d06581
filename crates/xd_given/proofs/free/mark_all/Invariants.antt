use Rattle.std.proofs.Common.{◌≡◌, ◌+◌, ◌<◌, ◌≤◌, Bool, true, false, length}
use Rattle.xd_auto.specs.declared.auto.State.{State}
use Rattle.xd_bind.specs.Marks.{unmarked}
use Rattle.xd_empty.specs.Parts.{is_marked}
use Rattle.xd_given.specs.Free.{AreSound, GoesNowhere}
use Rattle.xd_given.proofs.free.mark_all.Given as goal

abbrev pub invariant-loop-done : goal.invariant-loop-done
invariant-loop-done g l = record {
  sized : length l.marks.items ≡ length l.auto';
  kept : (s : State) → is_marked l.fn.marks.items s ≡ true → is_marked l.marks.items s ≡ true;
  sound : (stops : State → Bool) → AreSound l.auto' (g.H.Holds.owned l.owner l.variable) stops (is_marked l.fn.marks.items) → AreSound l.auto' (g.H.Holds.owned l.owner l.variable) stops (is_marked l.marks.items);
  settled : l.changed ≡ false → (s : State) → length l.auto' ≤ s.number + l.done → is_marked l.marks.items s ≡ false → s.number < length l.auto' → GoesNowhere l.auto' (g.H.Holds.owned l.owner l.variable) (is_marked l.marks.items) s;
  counted : unmarked l.marks.items ≤ unmarked l.fn.marks.items;
  fewer : l.changed ≡ true → unmarked l.marks.items < unmarked l.fn.marks.items;
}
