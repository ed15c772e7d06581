use Rattle.std.proofs.Common.{◌≡◌, take}
use Rattle.xd_auto.specs.Copying.{AddsCopies, copies_in}
use Rattle.xd_auto.proofs.auto.copying.add_labels.Given as goal

abbrev pub invariant-loop-step : goal.invariant-loop-step
invariant-loop-step l = record {
  labels : AddsCopies (copies_in l.contents) (copies_in l.rests) (take l.step-index l.moves) l.initial.into.labels l.into.labels;
  last : l.into.last ≡ l.initial.into.last;
  texts : l.into.texts ≡ l.initial.into.texts;
}
