use Rattle.std.proofs.Common.{◌≤◌, length}
use Rattle.std.specs.List.{sum_by}
use Rattle.xd_sound.proofs.Reached.{Walked, weight}
use Rattle.xd_sound.proofs.adopt.reached_from.Given as goal

abbrev pub invariant-loop-at : goal.invariant-loop-at
invariant-loop-at l = record {
  walked : Walked l.types l.fn.id.at l.above l.waiting l.reached.items;
  bound : l.above ≤ length l.types;
}

abbrev pub decreases-loop-at : goal.decreases-loop-at
decreases-loop-at l = sum_by (weight l.types) l.waiting
