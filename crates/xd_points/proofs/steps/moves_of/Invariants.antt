use Rattle.std.proofs.Common.{◌&&◌, not, take}
use Rattle.xd_auto.specs.Automaton.{accepts, moves_at}
use Rattle.xd_boole.specs.Groups.{passes_at}
use Rattle.xd_points.specs.FirstRuns.{place_before}
use Rattle.xd_points.specs.Points.{ArePoints, Grows, StandForMoves, taken_before}
use Rattle.xd_points.proofs.steps.moves_of.Given as goal

abbrev pub invariant-loop-number : goal.invariant-loop-number
invariant-loop-number g l =
    let takes = g.M.PatternMove.takes l.automata.patterns.now.auto in
    let xs = g.M.Move.moves_in (moves_at l.automata.patterns.now.auto l.of.pattern) in
    record {
      whole : ArePoints l.automata.lefts.now l.automata.patterns.now l.points;
      grows : Grows l.initial.points l.points;
      stand : StandForMoves g.M.PatternMove.states (g.M.PatternMove.means l.automata.lefts.now l.automata.patterns.now) xs l.points l.moves.items l.numbers.items
          (λ n q. accepts l.automata.lefts.now (g.M.PatternMove.document q) l.of.left && (passes_at (takes q) (take l.number xs) n && not (taken_before (takes q) xs l.automata.patterns.now l.of (place_before l.fn.first n) (g.M.PatternMove.document q))));
    }
