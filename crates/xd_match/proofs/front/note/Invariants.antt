use Rattle.std.proofs.Common.{◌≡◌, length, take}
use Rattle.xd_match.specs.Taking.{AddsPiece}
use Rattle.xd_match.proofs.front.note.Given as goal

abbrev pub invariant-loop-i : goal.invariant-loop-i
invariant-loop-i l = record {
  len : length l.items.items ≡ length l.fn.items.items;
  end_is : l.i-end ≡ length l.marks;
  adds : AddsPiece l.fn.items.items l.items.items (take l.i l.marks) l.piece;
}
