use Rattle.std.proofs.Common.{ℕ, ◌≡◌, ◌+◌, length, take, true}
use Rattle.std.specs.List.{All}
use Rattle.xd_auto.specs.declared.auto.LabelMove.{LabelMove}
use Rattle.xd_auto.specs.Copying.{ArePlaced, FindsMore, HasCopy, IsTarget, LabelBelow, copies_in, uncopied}
use Rattle.xd_auto.proofs.auto.copying.Reach.visit_labels.Given as goal

abbrev pub invariant-loop-step : goal.invariant-loop-step
invariant-loop-step l = record {
  placed : ArePlaced l.base l.self.order.items (copies_in l.self.copies);
  more : FindsMore (IsTarget l.contents l.moves) l.initial.self.order.items (copies_in l.initial.self.copies) l.self.order.items (copies_in l.self.copies);
  in_contents : l.contents ≡ true → All (λ (m : LabelMove). HasCopy (copies_in l.self.copies) m.content) (take l.step-index l.moves);
  in_rests : All (λ (m : LabelMove). HasCopy (copies_in l.self.copies) m.rest) (take l.step-index l.moves);
  steps : (n : ℕ) → All (LabelBelow n) l.moves → length l.self.order.items + uncopied (copies_in l.self.copies) n ≡ length l.initial.self.order.items + uncopied (copies_in l.initial.self.copies) n;
}
