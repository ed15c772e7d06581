use Rattle.std.proofs.Common.{◌≡◌, ◌||◌, Bool, take}
use Rattle.std.specs.List.{list_any}
use Rattle.xd_auto.specs.Automaton.{moves_at}
use Rattle.xd_stream.specs.Pairs.{leads_on_text}
use Rattle.xd_stream.specs.declared.pairs.Pair.{Pair}
use Rattle.xd_stream.proofs.pairs.add_every_text.Given as goal

abbrev pub invariant-loop-step : goal.invariant-loop-step
invariant-loop-step l = (f : Pair → Bool) → list_any f l.into.items ≡ (list_any f l.fn.into.items || list_any (leads_on_text l.marks f l.pair.first) (take l.step-index (moves_at l.auto' l.pair.present).texts))
