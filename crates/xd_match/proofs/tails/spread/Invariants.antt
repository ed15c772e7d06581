use Rattle.std.proofs.Common.{◌≡◌, length}
use Rattle.xd_sound.proofs.EmptyLemmas.{visits_left}
use Rattle.xd_match.specs.Tails.{IsSpread}
use Rattle.xd_match.proofs.tails.spread.Given as goal

abbrev pub invariant-loop-at : goal.invariant-loop-at
invariant-loop-at l = record {
  count : length l.mixed.items ≡ length l.behind;
  spread : IsSpread l.behind l.fn.waiting.items l.mixed.items l.waiting.items;
}

abbrev pub decreases-loop-at : goal.decreases-loop-at
decreases-loop-at l = visits_left l.mixed.items l.waiting.items
