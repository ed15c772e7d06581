use Rattle.std.proofs.Common.{[], length}
use Rattle.xd_patterns.specs.Held.{variables_in}
use Rattle.xd_calls_clauses.specs.Tracked.{IsOfStates, MoreTracks}
use Rattle.xd_calls_clauses.proofs.tracks.tracks_in.Given as goal

abbrev pub invariant-loop-number : goal.invariant-loop-number
invariant-loop-number l = MoreTracks l.auto' l.marked (IsOfStates l.auto' l.number (length (variables_in l.marked))) [] l.tracks.items
