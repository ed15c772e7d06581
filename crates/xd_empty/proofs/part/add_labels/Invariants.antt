use Rattle.std.proofs.Common.{take}
use Rattle.xd_empty.specs.Parts.{AddsLabels}
use Rattle.xd_empty.proofs.part.add_labels.Given as goal

abbrev pub invariant-loop-step : goal.invariant-loop-step
invariant-loop-step l = AddsLabels l.marks l.state (take l.step-index l.step-items) l.initial.made l.made
