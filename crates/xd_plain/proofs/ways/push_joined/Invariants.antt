use Rattle.std.proofs.Common.{◌≡◌, ◌++◌, map, drop}
use Rattle.xd_syntax.specs.Ways.{then_way}
use Rattle.xd_plain.specs.PlainWays.{way_of, ways_of}
use Rattle.xd_plain.proofs.ways.push_joined.Given as goal

abbrev pub invariant-loop-second : goal.invariant-loop-second
invariant-loop-second l =
    ways_of l.made.items ++ map (then_way (way_of l.first)) (ways_of (drop l.second-index l.seconds))
    ≡ ways_of l.initial.made.items ++ map (then_way (way_of l.first)) (ways_of l.seconds)
