use Rattle.std.proofs.Common.{◌≡◌, map, take}
use Rattle.xd_given.specs.Blocks.{there}
use Rattle.xd_given.specs.Chosen.{chosen, label_onto}
use Rattle.xd_given.proofs.blocks.block_labels.Given as goal

abbrev pub invariant-loop-number : goal.invariant-loop-number
invariant-loop-number g l =
    l.labels.items ≡ map (label_onto (there l.places) (there l.blocks)) (chosen ((g.H.Holds.owned l.owner l.variable).element l.state) (take l.number l.moves))
