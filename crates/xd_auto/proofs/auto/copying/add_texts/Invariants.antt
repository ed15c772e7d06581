use Rattle.std.proofs.Common.{◌≡◌, ◌++◌, map, take}
use Rattle.xd_auto.specs.Copying.{copies_in, moved_text}
use Rattle.xd_auto.proofs.auto.copying.add_texts.Given as goal

abbrev pub invariant-loop-step : goal.invariant-loop-step
invariant-loop-step l = l.into ≡ record l.initial.into { texts = l.initial.into.texts ++ map (moved_text (copies_in l.rests)) (take l.step-index l.moves) }
