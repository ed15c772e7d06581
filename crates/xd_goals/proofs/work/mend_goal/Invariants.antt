use Rattle.std.proofs.Common.{ℕ, ◌≡◌, ◌<◌, length}
use Rattle.xd_doc.specs.StoreNodes.{Keeps}
use Rattle.xd_goals.specs.Rows.{row_at, IsUnbroken}
use Rattle.xd_goals.specs.Kept.{view_of}
use Rattle.xd_goals.specs.Cases.{IsMending}
use Rattle.xd_goals.specs.Progress.{CanWork}
use Rattle.xd_goals.proofs.work.mend_goal.Given as goal

abbrev pub invariant-loop-place : goal.invariant-loop-place
invariant-loop-place l = record {
  can : CanWork l.asked.auto.now l.store l.goals l.answers;
  mending : IsMending l.owner.number (view_of l.initial.goals) (view_of l.goals);
  keeps : Keeps l.initial.store l.store;
  unbroken : (k : ℕ) → k < l.place → IsUnbroken (row_at l.goals.rows.items l.owner.number) k;
  end_is : l.place-end ≡ length (row_at l.goals.rows.items l.owner.number).broken;
}
