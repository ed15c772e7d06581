use Rattle.std.proofs.Common.{◌≡◌, ◌&&◌, ◌||◌, ℕ, List, drop}
use Rattle.xd_syntax.specs.Words.{has_word}
use Rattle.xd_names.proofs.linear.kept.Given as goal

abbrev pub invariant-loop-word : goal.invariant-loop-word
invariant-loop-word l = (w : List ℕ) → (has_word l.made w || (has_word l.among w && has_word (drop l.word-index l.words) w)) ≡ (has_word l.among w && has_word l.words w)
