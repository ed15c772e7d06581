use Rattle.std.proofs.Common.{◌≡◌, drop}
use Rattle.xd_meaning.specs.FirstMatch.{first_whole}
use Rattle.xd_plain.specs.PlainWays.{ways_of}
use Rattle.xd_plain.proofs.ways.first_of_whole.Given as goal

abbrev pub invariant-loop-way : goal.invariant-loop-way
invariant-loop-way l = first_whole (ways_of l.ways) ≡ first_whole (ways_of (drop l.way-index l.ways))
