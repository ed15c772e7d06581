use Rattle.std.proofs.Common.{◌≡◌, ◌≤◌, ◌<◌, ℕ, false, slice_index_or}
use Rattle.xd_auto.proofs.auto.index.first_walked.Given as goal

abbrev pub invariant-loop-number : goal.invariant-loop-number
invariant-loop-number g l = (k : ℕ) (d : g.row.M.Denot) → l.from ≤ k → k < l.number → g.M.Step.takes_name (slice_index_or l.moves k d) l.name ≡ false
