use Rattle.std.proofs.Common.{[], ◌∷◌, ap, length, length-append, arith}
use Rattle.xd_given.specs.Outline.{can_stop, leaf_free}
use Rattle.xd_given.proofs.FreeLemmas.{mark_more}
use Rattle.xd_given.proofs.free.stops_of.Goals as goal

pub can_stop-requires-clause-left : goal.can_stop-requires-clause-left
can_stop-requires-clause-left g c = c.requires.lefts c.state-point.result (omega (arith, c.state-point.ensures.number, c.loop-number-test.true, c.requires.count))

pub loop-number-preserved : goal.loop-number-preserved
loop-number-preserved g c =
    let t = c.args.of.now.table.now in
    let b = g.H.Holds.owned c.args.of.now.owner.now c.args.variable in
    let told = can_stop c.args.of.now.patterns.now t (leaf_free c.args.auto.now t b c.args.known.now) c.args.of.now.drawing.now in
    let stops = c.loop-number.stops.items in
    let inv = c.loop-number.invariant in
    record {
      len = omega (arith, ap length c.in_ok-push.ensures.items, length-append stops (c.can_stop.result ∷ []), inv.len);
      stops = rw c.in_ok-push.ensures.items (mark_more told stops c.loop-number.number c.state-point.result c.can_stop.result inv.len c.state-point.ensures.number c.can_stop.ensures inv.stops);
    }
