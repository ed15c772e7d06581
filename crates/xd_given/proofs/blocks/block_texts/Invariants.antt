use Rattle.std.proofs.Common.{◌≡◌, map, take}
use Rattle.xd_given.specs.Blocks.{there}
use Rattle.xd_given.specs.Chosen.{chosen, text_onto}
use Rattle.xd_given.proofs.blocks.block_texts.Given as goal

abbrev pub invariant-loop-number : goal.invariant-loop-number
invariant-loop-number g l = l.texts.items ≡ map (text_onto (there l.blocks)) (chosen ((g.H.Holds.owned l.owner l.variable).text l.state) (take l.number l.moves))
