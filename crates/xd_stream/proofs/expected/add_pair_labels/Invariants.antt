use Rattle.std.proofs.Common.{◌≡◌, ◌||◌, ℕ, List, take}
use Rattle.std.specs.List.{list_any}
use Rattle.xd_stream.specs.Expecting.{pair_goes_by_label, some_has}
use Rattle.xd_stream.proofs.expected.add_pair_labels.Given as goal

abbrev pub invariant-loop-pair : goal.invariant-loop-pair
invariant-loop-pair l = (name : List ℕ) → some_has l.into.items name ≡ (some_has l.fn.into.items name || list_any (pair_goes_by_label l.auto' l.marks name) (take l.pair-index l.now))
