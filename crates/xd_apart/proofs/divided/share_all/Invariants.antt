use Rattle.std.proofs.Common.{◌≡◌, take}
use Rattle.xd_apart.proofs.divided.share_all.Given as goal

abbrev pub invariant-loop-step : goal.invariant-loop-step
invariant-loop-step g l = l.made.items ≡ take l.step-index l.moves
