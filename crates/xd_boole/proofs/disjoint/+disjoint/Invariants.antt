use Rattle.std.proofs.Common.{◌+◌, ◌*◌, length, take, drop}
use Rattle.std.specs.List.{AllByRecursion}
use Rattle.xd_boole.specs.Disjoint.{IsDisjointMove, IsDisjointText}
use Rattle.xd_boole.specs.Points.{MoveBelow, TextBelow}
use Rattle.xd_boole.proofs.DisjointLemmas.{NoneShared, NoTextShared}
use Rattle.xd_boole.proofs.disjoint.+disjoint.Given as goal

abbrev pub decreases-are_sides_disjoint_within : goal.decreases-are_sides_disjoint_within
decreases-are_sides_disjoint_within l = 3 * l.depth + 2

abbrev pub decreases-are_disjoint_within : goal.decreases-are_disjoint_within
decreases-are_disjoint_within l = 3 * l.depth + 1

abbrev pub decreases-is_disjoint_move : goal.decreases-is_disjoint_move
decreases-is_disjoint_move l = 3 * l.depth

abbrev pub decreases-is_disjoint_text : goal.decreases-is_disjoint_text
decreases-is_disjoint_text l = 3 * l.depth

abbrev pub invariant-is_disjoint_move-loop-other : goal.invariant-is_disjoint_move-loop-other
invariant-is_disjoint_move-loop-other l = record {
  disjoint : IsDisjointMove l.one l.two l.step (take l.other-index l.others);
  left : AllByRecursion (MoveBelow (length l.two)) (drop l.other-index l.others);
}

abbrev pub invariant-is_disjoint_text-loop-other : goal.invariant-is_disjoint_text-loop-other
invariant-is_disjoint_text-loop-other l = record {
  disjoint : IsDisjointText l.one l.two l.step (take l.other-index l.others);
  left : AllByRecursion (TextBelow (length l.two)) (drop l.other-index l.others);
}

abbrev pub invariant-are_disjoint_within-loop-step : goal.invariant-are_disjoint_within-loop-step
invariant-are_disjoint_within-loop-step l = record {
  disjoint : NoneShared l.one l.two (take l.step-index l.labels) l.others;
  left : AllByRecursion (MoveBelow (length l.one)) (drop l.step-index l.labels);
}

abbrev pub invariant-are_disjoint_within-loop-step-2 : goal.invariant-are_disjoint_within-loop-step-2
invariant-are_disjoint_within-loop-step-2 l = record {
  disjoint : NoTextShared l.one l.two (take l.step-index l.step-items) l.other_texts;
  left : AllByRecursion (TextBelow (length l.one)) (drop l.step-index l.step-items);
}
