use Rattle.std.proofs.Common.{◌+◌, [], length, subst, sym}
use Rattle.xd_auto.specs.declared.kind.MoveKind.TheVariants.{Label, Text}
use Rattle.xd_patterns.specs.Held.{variables_in}
use Rattle.xd_calls_clauses.specs.Tracked.{IsOfMoves, IsOfStates, MoreTracks}
use Rattle.xd_calls_clauses.proofs.MoreTracksLemmas.{more_state}
use Rattle.xd_calls_clauses.proofs.tracks.tracks_in.Goals as goal

pub loop-number-preserved : goal.loop-number-preserved
loop-number-preserved c =
    let a = c.args.auto.now in
    let m = c.args.marked.now in
    let state = c.state-state.result in
    let variables = length (variables_in m) in
    let old = c.loop-number.tracks.items in
    let mid = c.add_of_moves.new.tracks.items in
    let new = c.add_of_moves-in-loop-number.new.tracks.items in
    subst (λ n. MoreTracks a m (IsOfStates a (n + 1) variables) [] new) c.state-state.ensures.number
    (more_state a m state variables [] old mid new (subst (λ n. MoreTracks a m (IsOfStates a n variables) [] old) (sym c.state-state.ensures.number) c.loop-number.invariant)
    (subst (λ ls. MoreTracks a m (IsOfMoves state Label (length ls) variables) old mid) c.label_moves-labels.ensures.value (c.in_ok-add_of_moves.ensures a c.state-state.ensures.belongs))
    (subst (λ ls. MoreTracks a m (IsOfMoves state Text (length ls) variables) mid new) c.text_moves-texts.ensures.value (c.in_ok-add_of_moves-2.ensures a c.state-state.ensures.belongs)))
