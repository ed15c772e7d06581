use Rattle.std.proofs.Common.{take}
use Rattle.xd_boole.specs.Merging.{RedirectsLabels}
use Rattle.xd_boole.proofs.merging.redirect_labels.Given as goal

abbrev pub invariant-loop-step : goal.invariant-loop-step
invariant-loop-step l = RedirectsLabels l.same l.state (take l.step-index l.moves) l.initial.made l.made
