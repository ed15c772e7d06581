use Rattle.std.proofs.Common.{◌≡◌, ℕ, false, not, List, take}
use Rattle.std.specs.List.{list_any}
use Rattle.xd_auto.specs.Automaton.{moves_at}
use Rattle.xd_doc.specs.Classes.{class_has}
use Rattle.xd_stream.proofs.pairs.state_takes_every_text.Given as goal

abbrev pub invariant-loop-step : goal.invariant-loop-step
invariant-loop-step l = (t : List ℕ) → list_any (λ m. not (class_has m.words t)) (take l.step-index (moves_at l.auto' l.fn.state).texts) ≡ false
