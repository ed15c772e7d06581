use Rattle.xd_given.specs.Blocks.{IsFilledTo}
use Rattle.xd_given.specs.Owning.{point_moves}
use Rattle.xd_given.proofs.blocks.fill_blocks.Given as goal

abbrev pub invariant-loop-number : goal.invariant-loop-number
invariant-loop-number g l =
    IsFilledTo (point_moves l.of.table.now (g.H.Holds.owned l.of.owner.now l.variable)) l.of.drawing.now l.places l.blocks l.base l.number l.fn.auto l.auto'
