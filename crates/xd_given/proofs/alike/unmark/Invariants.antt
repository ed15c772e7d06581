use Rattle.std.proofs.Common.{◌≡◌, ◌+◌, ◌<◌, ◌≤◌, Bool, true, false, length}
use Rattle.xd_auto.specs.declared.auto.State.{State}
use Rattle.xd_empty.specs.Parts.{is_marked}
use Rattle.xd_given.specs.Alike.{IsAlikeFor, IsAlikeSet, IsIn, marked_count}
use Rattle.xd_given.proofs.alike.unmark.Given as goal

abbrev pub invariant-loop-done : goal.invariant-loop-done
invariant-loop-done g l = record {
  sized : length l.marks.items ≡ length l.auto';
  kept : (set : State → Bool) → IsAlikeSet l.auto' (g.H.Holds.owned l.owner) l.count set → IsIn set (is_marked l.fn.marks.items) → IsIn set (is_marked l.marks.items);
  alike : l.changed ≡ false → (s : State) → length l.auto' ≤ s.number + l.done → is_marked l.marks.items s ≡ true → IsAlikeFor l.auto' (g.H.Holds.owned l.owner) l.count (is_marked l.marks.items) s;
  counted : marked_count l.marks.items ≤ marked_count l.fn.marks.items;
  fewer : l.changed ≡ true → marked_count l.marks.items < marked_count l.fn.marks.items;
}
