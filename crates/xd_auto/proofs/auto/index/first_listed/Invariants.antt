use Rattle.std.proofs.Common.{◌≡◌, ◌≤◌, ◌<◌, ℕ, false, length, slice_index_or}
use Rattle.xd_auto.proofs.auto.index.first_listed.Given as goal

abbrev pub invariant-loop-place : goal.invariant-loop-place
invariant-loop-place g l = record {
  passed : (i : ℕ) (d : g.row.M.Denot) → l.start ≤ i → i < l.place → slice_index_or l.numbers i 0 < length l.moves
      → g.M.Step.takes_name (slice_index_or l.moves (slice_index_or l.numbers i 0) d) l.name ≡ false;
  end_is : l.place-end ≡ length l.numbers;
  start_is : l.start ≤ length l.numbers;
}
