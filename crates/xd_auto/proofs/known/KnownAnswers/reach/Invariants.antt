use Rattle.std.proofs.Common.{ℕ, ◌+◌, ◌-◌, ◌≤◌, length}
use Rattle.xd_auto.specs.Kept.{HasRoom, SameAnswers, words_of}
use Rattle.xd_auto.proofs.known.KnownAnswers.reach.Given as goal

abbrev pub invariant-loop-self : goal.invariant-loop-self
invariant-loop-self l = record {
  same : SameAnswers (words_of l.fn.self.rows.items) (words_of l.self.rows.items);
  room : (states words : ℕ) → HasRoom states words l.fn.self.rows.items → HasRoom states words l.self.rows.items;
  longer : length l.fn.self.rows.items ≤ length l.self.rows.items;
}

abbrev pub decreases-loop-self : goal.decreases-loop-self
decreases-loop-self l = l.state + 1 - length l.self.rows.items
