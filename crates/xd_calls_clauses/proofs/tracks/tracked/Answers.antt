use Rattle.std.proofs.Common.{sym, subst}
use Rattle.xd_auto.specs.Automaton.{IsClosed}
use Rattle.xd_calls_clauses.proofs.MoreTracksLemmas.{can_project}
use Rattle.xd_calls_clauses.proofs.tracks.tracked.Goals as goal

pub returns : goal.returns
returns c =
    let m = c.args.marked.now in
    let a = c.args.auto in
    let start = c.start.result in
    can_project (record { auto = a; start = start; variables = c.loop-variable.variables; marks = c.in_ok-marks.marks }) m
    (subst IsClosed c.auto.view_is c.auto.invariant) c.in_ok-marks.ensures
    (rw (c.start.ensures) c.requires.start)
    (rw (c.loop-variable.invariant, sym c.variables-variable-items.ensures) c.loop-variable.auto.variable-index-end)
    (rw (c.start.ensures) c.requires.together)
