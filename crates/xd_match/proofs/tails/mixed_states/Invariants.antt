use Rattle.std.proofs.Common.{◌≡◌, length}
use Rattle.xd_patterns.specs.Held.{marking_of}
use Rattle.xd_match.proofs.IsSpreadLemmas.{AreSeeded}
use Rattle.xd_match.proofs.tails.mixed_states.Given as goal

abbrev pub invariant-loop-number : goal.invariant-loop-number
invariant-loop-number l = record {
  end_is : l.number-end ≡ length l.auto';
  seeded : AreSeeded l.auto' (marking_of l.marked) l.mixed.items l.waiting.items l.number;
}
