use Rattle.std.proofs.Common.{◌≡◌, ◌&&◌, ◌||◌, ℕ, List, take}
use Rattle.std.specs.List.{list_any}
use Rattle.xd_doc.specs.Classes.{class_has}
use Rattle.xd_auto.specs.Automaton.{moves_at}
use Rattle.xd_empty.specs.Parts.{leads_on}
use Rattle.xd_stream.specs.Expecting.{some_has}
use Rattle.xd_stream.proofs.expected.add_labels.Given as goal

abbrev pub invariant-loop-step : goal.invariant-loop-step
invariant-loop-step l = (name : List ℕ) → some_has l.into.items name ≡ (some_has l.fn.into.items name || list_any (λ m. class_has m.class name && leads_on l.marks m) (take l.step-index (moves_at l.auto' l.fn.state).labels))
