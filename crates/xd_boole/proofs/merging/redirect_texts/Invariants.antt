use Rattle.std.proofs.Common.{take}
use Rattle.xd_boole.specs.Merging.{RedirectsTexts}
use Rattle.xd_boole.proofs.merging.redirect_texts.Given as goal

abbrev pub invariant-loop-step : goal.invariant-loop-step
invariant-loop-step l = RedirectsTexts l.same l.state (take l.step-index l.moves) l.initial.made l.made
