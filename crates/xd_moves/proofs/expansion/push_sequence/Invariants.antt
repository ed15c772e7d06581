use Rattle.std.proofs.Common.{drop}
use Rattle.xd_syntax.specs.Types.{type_numbers}
use Rattle.xd_moves.specs.Cells.{StayChosen}
use Rattle.xd_moves.proofs.PutsTasksLemmas.{IsPushed}
use Rattle.xd_moves.proofs.expansion.push_sequence.Given as goal

abbrev pub invariant-loop-at : goal.invariant-loop-at
invariant-loop-at g l = record {
  pushed : IsPushed l.types l.marks l.fn.cells l.behind l.fn.tasks.items (type_numbers (drop l.at l.parts)) l.rest l.cells l.tasks.items;
  chosen : StayChosen (g.S.StandIns.chosen l.types l.stand_ins) l.fn.cells l.cells;
}
