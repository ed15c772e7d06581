use Rattle.xd_given.specs.Outline.{IsDrawnTo}
use Rattle.xd_given.proofs.outline.draw.Given as goal

abbrev pub invariant-loop-number : goal.invariant-loop-number
invariant-loop-number l = IsDrawnTo l.patterns l.table l.number l.drawing
