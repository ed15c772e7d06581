use Rattle.std.proofs.Common.{take}
use Rattle.xd_auto.specs.Automaton.{moves_at}
use Rattle.xd_bind.specs.Changes.{IsChange, with_labels}
use Rattle.xd_bind.proofs.copying.copy_labels.Given as goal

abbrev pub invariant-loop-step : goal.invariant-loop-step
invariant-loop-step l = IsChange l.initial.made l.made l.state (with_labels (take l.step-index l.step-items) (moves_at l.initial.made l.state))
