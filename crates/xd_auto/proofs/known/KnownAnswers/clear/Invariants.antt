use Rattle.std.proofs.Common.{ℕ, ◌≡◌, ◌<◌, [], length, get_or}
use Rattle.xd_auto.specs.Kept.{HasRoom}
use Rattle.xd_auto.proofs.known.KnownAnswers.clear.Given as goal

abbrev pub invariant-loop-state : goal.invariant-loop-state
invariant-loop-state l = record {
  same_len : length l.self.rows.items ≡ length l.fn.self.rows.items;
  end_is : l.state-end ≡ length l.fn.self.rows.items;
  bare : (s : ℕ) (row : _) → s < l.state → (get_or l.self.rows.items s row).items ≡ [];
  room : (states words : ℕ) → HasRoom states words l.fn.self.rows.items → HasRoom states words l.self.rows.items;
}
