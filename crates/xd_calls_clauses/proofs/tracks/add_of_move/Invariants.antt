use Rattle.xd_auto.specs.Automaton.{Automaton, IsState}
use Rattle.xd_calls_clauses.specs.Tracked.{IsOfMove, MoreTracks}
use Rattle.xd_calls_clauses.proofs.tracks.add_of_move.Given as goal

abbrev pub invariant-loop-variable : goal.invariant-loop-variable
invariant-loop-variable l = (a : Automaton) → IsState a l.fn.state → MoreTracks a l.marked (IsOfMove l.fn.state l.fn.kind l.fn.number l.variable) l.initial.tracks.items l.tracks.items
