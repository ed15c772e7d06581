use Rattle.std.proofs.Common.{take}
use Rattle.xd_show_solve.specs.Levels.{ArePlaced, GrowsStates, IsLevel, KeepsKnown}
use Rattle.xd_show_solve.proofs.places.see_labels.Given as goal

abbrev pub invariant-loop-step : goal.invariant-loop-step
invariant-loop-step l = record {
  level : IsLevel l.fn.auto l.level.states.items l.level.places.items;
  placed : ArePlaced l.level.places.items (take l.step-index l.moves);
  grows : GrowsStates l.fn.level.states.items l.level.states.items;
  keeps : KeepsKnown l.fn.level.places.items l.level.places.items;
}
