use Rattle.std.proofs.Common.{◌≡◌, fold, take}
use Rattle.xd_auto.specs.Keys.{mixed_with}
use Rattle.xd_auto.proofs.key.StateKeyHash.hash.Given as goal

abbrev pub invariant-loop-number : goal.invariant-loop-number
invariant-loop-number g l = l.key ≡ fold mixed_with 0 (take l.number-index l.self)
