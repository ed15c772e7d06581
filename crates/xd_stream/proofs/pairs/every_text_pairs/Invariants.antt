use Rattle.std.proofs.Common.{◌≡◌, ◌||◌, Bool, take}
use Rattle.std.specs.List.{list_any}
use Rattle.xd_stream.specs.Pairs.{leads_over_every_text}
use Rattle.xd_stream.specs.declared.pairs.Pair.{Pair}
use Rattle.xd_stream.proofs.pairs.every_text_pairs.Given as goal

abbrev pub invariant-loop-pair : goal.invariant-loop-pair
invariant-loop-pair l = (f : Pair → Bool) → list_any f l.into.items ≡ (list_any f l.fn.into.items || leads_over_every_text l.auto' l.marks f (take l.pair-index l.now))
