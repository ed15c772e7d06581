use Rattle.std.proofs.Common.{◌≡◌, ℕ, [], length, take}
use Rattle.xd_auto.specs.declared.auto.State.{State}
use Rattle.xd_auto.specs.declared.kind.MoveKind.{MoveKind}
use Rattle.xd_bind.specs.Projection.{has_track}
use Rattle.xd_given.specs.Buckets.{bucket_at}
use Rattle.xd_given.proofs.marks.Marks.new.Given as goal

abbrev pub invariant-loop : goal.invariant-loop
invariant-loop l = record {
  sized : length l.rows.items ≡ l.counter;
  none : (s : State) (n : ℕ) → bucket_at l.rows.items s n ≡ [];
}

abbrev pub invariant-loop-track : goal.invariant-loop-track
invariant-loop-track l = record {
  sized : length l.rows.items ≡ length l.auto';
  has : (x : ℕ) (kind : MoveKind) (s : State) (n : ℕ) → has_track (bucket_at l.rows.items s n) x kind s n ≡ has_track (take l.track-index l.marks) x kind s n;
}
