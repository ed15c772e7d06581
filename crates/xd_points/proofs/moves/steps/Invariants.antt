use Rattle.std.proofs.Common.{◌&&◌, not, [], take}
use Rattle.std.specs.List.{list_any}
use Rattle.xd_auto.specs.Automaton.{moves_at}
use Rattle.xd_boole.specs.Groups.{passes_at}
use Rattle.xd_points.specs.Points.{AddsMoves, LeadsAs, taken_before}
use Rattle.xd_points.proofs.moves.steps.Given as goal

abbrev pub invariant-loop-number : goal.invariant-loop-number
invariant-loop-number g l =
    AddsMoves (LeadsAs g.M.PatternMove.states l.two) (g.M.PatternMove.means l.automata.lefts.now l.automata.patterns.now) l.automata.lefts.now l.automata.patterns.now l.initial.points l.points [] l.made.items
    (λ q. list_any (passes_at (g.M.PatternMove.takes l.automata.lefts.now q) l.ones) (take l.number-index l.number-items)
    && (g.M.PatternMove.takes l.automata.patterns.now.auto q l.two && not (taken_before (g.M.PatternMove.takes l.automata.patterns.now.auto q) (g.M.Move.moves_in (moves_at l.automata.patterns.now.auto l.of.pattern)) l.automata.patterns.now l.of l.place (g.M.PatternMove.document q))))
