use Rattle.std.proofs.Common.{◌≡◌, length}
use Rattle.xd_moves.specs.Pieces.{IsFirst}
use Rattle.xd_moves.specs.Cells.{AreChosen}
use Rattle.xd_moves.specs.Found.{AreOfTypes}
use Rattle.xd_heads.specs.Numbered.{AreNodeNumbers}
use Rattle.xd_heads.proofs.lister.number_nodes.Given as goal

abbrev pub invariant-loop-at : goal.invariant-loop-at
invariant-loop-at l = record {
  each : length l.numbers.items ≡ l.at;
  numbers : AreNodeNumbers l.types l.cells l.at l.numbers.items;
  nodes : AreOfTypes l.types l.cells;
  chosen : AreChosen (IsFirst l.types l.firsts) l.cells;
}
