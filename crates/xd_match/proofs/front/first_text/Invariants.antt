use Rattle.std.proofs.Common.{ℕ, ◌≡◌, ◌<◌, ◌≤◌, ◌-◌, false, length, get_or}
use Rattle.xd_doc.specs.Stored.{document_at}
use Rattle.xd_auto.specs.declared.auto.TextMove.{TextMove}
use Rattle.xd_auto.specs.Automaton.{moves_at, takes_word}
use Rattle.xd_auto.specs.Kept.{AreRight}
use Rattle.xd_match.proofs.front.first_text.Given as goal

abbrev pub invariant-loop-number : goal.invariant-loop-number
invariant-loop-number l = record {
  right : AreRight l.auto' l.store l.answers;
  within : l.from ≤ length (moves_at l.auto' l.state).texts;
  before : (k : ℕ) (d : TextMove) → k < l.from → takes_word l.auto' l.text (document_at l.store l.rest) (get_or (moves_at l.auto' l.state).texts k d) ≡ false;
}

abbrev pub decreases-loop-number : goal.decreases-loop-number
decreases-loop-number l = length (moves_at l.auto' l.state).texts - l.from
