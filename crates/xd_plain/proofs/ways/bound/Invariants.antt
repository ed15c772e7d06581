use Rattle.std.proofs.Common.{◌≡◌, ◌++◌, map, drop}
use Rattle.xd_syntax.specs.Ways.{binding}
use Rattle.xd_plain.specs.PlainWays.{ways_of}
use Rattle.xd_plain.proofs.ways.bound.Given as goal

abbrev pub invariant-loop-way : goal.invariant-loop-way
invariant-loop-way l = ways_of l.made.items ++ map (binding l.variable) (ways_of (drop l.way-index l.ways)) ≡ map (binding l.variable) (ways_of l.ways)
