use Rattle.std.proofs.Common.{take}
use Rattle.std.specs.List.{AllZip}
use Rattle.xd_boole.proofs.merging.are_like_moves.Given as goal

abbrev pub invariant-loop-number : goal.invariant-loop-number
invariant-loop-number g l = AllZip (g.M.Step.alike l.same l.compared) (take l.number l.ones) (take l.number l.others)
