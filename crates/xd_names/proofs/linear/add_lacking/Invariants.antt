use Rattle.std.proofs.Common.{◌≡◌, ◌&&◌, ◌||◌, not, ℕ, List, drop}
use Rattle.xd_syntax.specs.Words.{has_word}
use Rattle.xd_names.proofs.linear.add_lacking.Given as goal

abbrev pub invariant-loop-word : goal.invariant-loop-word
invariant-loop-word l = (w : List ℕ) → (has_word l.partial w || (not (has_word l.common w) && has_word (drop l.word-index l.words) w))
    ≡ (has_word l.initial.partial w || (not (has_word l.common w) && has_word l.words w))
