use Rattle.std.proofs.Common.{ℕ, ◌≡◌, ◌<◌, ◌+◌, length, take}
use Rattle.std.specs.List.{All}
use Rattle.xd_auto.specs.declared.auto.TextMove.{TextMove}
use Rattle.xd_auto.specs.Copying.{ArePlaced, FindsMore, HasCopy, IsTextTarget, copies_in, uncopied}
use Rattle.xd_auto.proofs.auto.copying.Reach.visit_texts.Given as goal

abbrev pub invariant-loop-step : goal.invariant-loop-step
invariant-loop-step l = record {
  placed : ArePlaced l.base l.self.order.items (copies_in l.self.copies);
  more : FindsMore (IsTextTarget l.moves) l.initial.self.order.items (copies_in l.initial.self.copies) l.self.order.items (copies_in l.self.copies);
  copied : All (λ (m : TextMove). HasCopy (copies_in l.self.copies) m.rest) (take l.step-index l.moves);
  steps : (n : ℕ) → All (λ (m : TextMove). m.rest.number < n) l.moves → length l.self.order.items + uncopied (copies_in l.self.copies) n ≡ length l.initial.self.order.items + uncopied (copies_in l.initial.self.copies) n;
}
