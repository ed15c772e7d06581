use Rattle.xd_moves.specs.Numbered.{AreNumberedBy}
use Rattle.xd_moves.proofs.firsts.FirstPieces.new.Given as goal

abbrev pub invariant-loop-at : goal.invariant-loop-at
invariant-loop-at l = AreNumberedBy l.types l.at l.lists l.made
