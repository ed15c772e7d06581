use Rattle.std.proofs.Common.{◌+◌, length}
use Rattle.xd_auto.specs.Kept.{AreRight}
use Rattle.xd_goals.specs.Measure.{possible, potential}
use Rattle.xd_goals.specs.Progress.{Progresses}
use Rattle.xd_goals.proofs.inclusion.settle.Given as goal

abbrev pub invariant-loop-document : goal.invariant-loop-document
invariant-loop-document l = record {
  progresses : Progresses l.auto' l.fn.store l.store l.fn.goals l.goals;
  right : AreRight l.auto' l.store l.answers;
}

abbrev pub decreases-loop-document : goal.decreases-loop-document
decreases-loop-document l = potential (length l.fn.goals.rows.items + length (possible (length l.auto'))) l.goals.rows.items
