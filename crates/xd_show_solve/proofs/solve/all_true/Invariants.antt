use Rattle.std.proofs.Common.{◌≡◌, take}
use Rattle.xd_show_solve.specs.Systems.{all_alive}
use Rattle.xd_show_solve.proofs.solve.all_true.Given as goal

abbrev pub invariant-loop-sum : goal.invariant-loop-sum
invariant-loop-sum l = l.made.items ≡ all_alive (take l._sum-index l.sums)
