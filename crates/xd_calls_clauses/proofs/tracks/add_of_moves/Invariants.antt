use Rattle.std.proofs.Common.{length}
use Rattle.xd_auto.specs.Automaton.{Automaton, IsState}
use Rattle.xd_patterns.specs.Held.{variables_in}
use Rattle.xd_calls_clauses.specs.Tracked.{IsOfMoves, MoreTracks}
use Rattle.xd_calls_clauses.proofs.tracks.add_of_moves.Given as goal

abbrev pub invariant-loop-number : goal.invariant-loop-number
invariant-loop-number l = (a : Automaton) → IsState a l.fn.state → MoreTracks a l.marked (IsOfMoves l.fn.state l.fn.kind l.number (length (variables_in l.marked))) l.initial.tracks.items l.tracks.items
