use Rattle.std.proofs.Common.{◌≡◌, [], drop}
use Rattle.xd_goals.specs.Trees.{gathered}
use Rattle.xd_goals.proofs.grow.rests_of.Given as goal

abbrev pub invariant-loop-side : goal.invariant-loop-side
invariant-loop-side l = gathered [] l.sides ≡ gathered l.rests.items (drop l.side-index l.sides)
