use Rattle.std.proofs.Common.{map, drop}
use Rattle.xd_syntax.specs.Table.{tree_at}
use Rattle.xd_syntax.specs.Types.{type_numbers}
use Rattle.xd_moves.specs.Cells.{StayChosen}
use Rattle.xd_moves.specs.Found.{IsContent}
use Rattle.xd_moves.proofs.contents.sequence.Given as goal

abbrev pub invariant-loop-at : goal.invariant-loop-at
invariant-loop-at g l = record {
  content : IsContent l.types l.fn.cells l.cells (map (tree_at l.types) (type_numbers (drop l.at l.parts))) l.number;
  chosen : StayChosen (g.S.StandIns.chosen l.types l.stand_ins) l.fn.cells l.cells;
}
