use Rattle.std.specs.Option.{IfSome}
use Rattle.xd_show_solve.specs.Systems.{IsCovered}
use Rattle.xd_show_solve.proofs.reduce.covered.Given as goal

abbrev pub invariant-loop-other : goal.invariant-loop-other
invariant-loop-other l = IfSome l.best (IsCovered l.sums l.number)
