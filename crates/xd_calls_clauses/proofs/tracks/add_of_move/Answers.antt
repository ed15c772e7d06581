use Rattle.std.proofs.Common.{inl, inr, refl, sym, ◌∙◌}
use Rattle.xd_bind.specs.declared.tracks.Track.{Track}
use Rattle.xd_calls_clauses.proofs.MoreTracksLemmas.{more_variable}
use Rattle.xd_calls_clauses.proofs.tracks.add_of_move.Goals.{then-holds+in_ok-push, else-holds}
use Rattle.xd_calls_clauses.proofs.tracks.add_of_move.Goals as goal

pub loop-variable-preserved : goal.loop-variable-preserved
loop-variable-preserved c a is =
    let t : Track = record { state = c.args.state; kind = c.args.kind; number = c.args.number; variable = c.loop-variable.variable } in
    more_variable a c.args.marked.now t c.args.tracks.now.items c.loop-variable.tracks.items c.if-holds.tracks.items (c.loop-variable.invariant a is) is
    (elim c.if-holds.branch [
      | then-holds+in_ok-push w ↦ inl (sym c.holds.ensures ∙ w.if-holds.true, rw (w.tracks-is, w.in_ok-push.ensures.items) refl)
      | else-holds w ↦ inr (sym c.holds.ensures ∙ w.if-holds.false, rw (w.tracks-is) refl)
    ])
