use Rattle.std.proofs.Common.{◌≡◌, map, take}
use Rattle.xd_given.specs.Blocks.{there}
use Rattle.xd_given.proofs.given.states_of.Given as goal

abbrev pub invariant-loop-point : goal.invariant-loop-point
invariant-loop-point l = l.states.items ≡ map (there l.blocks) (take l.point-index l.points)
