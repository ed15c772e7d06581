use Rattle.std.proofs.Common.{◌≤◌, ◌-◌, length}
use Rattle.xd_auto.specs.Automaton.{moves_at}
use Rattle.xd_auto.specs.Kept.{AreRight}
use Rattle.xd_apart.proofs.search.right_move.Given as goal

abbrev pub invariant-loop-number : goal.invariant-loop-number
invariant-loop-number g l = record {
  within : l.from ≤ length (g.M.Move.moves_in (moves_at l.auto' l.right.state));
  answers : AreRight l.auto' l.store l.answers;
}

abbrev pub decreases-loop-number : goal.decreases-loop-number
decreases-loop-number g l = length (g.M.Move.moves_in (moves_at l.auto' l.right.state)) - l.from
