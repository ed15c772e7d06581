use Rattle.std.proofs.Common.{length}
use Rattle.xd_patterns.specs.Held.{variables_in}
use Rattle.xd_calls_clauses.proofs.MoreTracksLemmas.{more_move}
use Rattle.xd_calls_clauses.proofs.tracks.add_of_moves.Goals as goal

pub loop-number-preserved : goal.loop-number-preserved
loop-number-preserved c a is =
    more_move a c.args.marked.now c.args.state c.args.kind c.loop-number.number (length (variables_in c.args.marked.now)) c.args.tracks.now.items c.loop-number.tracks.items c.add_of_move.new.tracks.items
    (c.loop-number.invariant a is) (c.in_ok-add_of_move.ensures a is)
