use Rattle.std.proofs.Common.{◌≡◌, ◌≤◌, ◌-◌, ◌^◌, length}
use Rattle.xd_points.specs.Points.{AreExpanded, KeepMoves, KeepsPoints}
use Rattle.xd_points.proofs.table.expand_all.Given as goal

abbrev pub invariant-loop-number : goal.invariant-loop-number
invariant-loop-number l = record {
  expanded : AreExpanded l.fn.first l.fn.automata.lefts.now l.fn.automata.patterns.now l.points l.rows.items;
  keeps : KeepsPoints l.initial.points l.points;
  moves : KeepMoves (length l.initial.rows.items) l.initial.points l.points;
  longer : length l.initial.rows.items ≤ length l.rows.items;
  count : l.number ≡ length l.rows.items;
}

abbrev pub decreases-loop-number : goal.decreases-loop-number
decreases-loop-number l = 2 ^ 64 - l.number
