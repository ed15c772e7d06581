use Rattle.std.proofs.Common.{◌∙◌}
use Rattle.xd_given.specs.Outline.{can_stop, leaf_free}
use Rattle.xd_given.specs.Owning.{point_moves}
use Rattle.xd_given.proofs.FreeLemmas.{sound_stops}
use Rattle.xd_given.proofs.free.free_points.Goals as goal

pub loop-init : goal.loop-init
loop-init g c =
    let t = c.args.of.now.table.now in
    let b = g.H.Holds.owned c.args.of.now.owner.now c.args.variable in
    let drawing = c.args.of.now.drawing.now in
    let stops = can_stop c.args.of.now.patterns.now t (leaf_free c.args.auto.now t b c.args.known.now) drawing in
    let made = c.in_ok-marks.ensures in
    record {
      sized = made.len;
      stop = λ s here e. made.stops s here ∙ e;
      sound = sound_stops drawing (point_moves t b) stops c.in_ok-marks.marks.items made.len made.stops;
    }

pub loop-preserved : goal.loop-preserved
loop-preserved g c =
    let t = c.args.of.now.table.now in
    let b = g.H.Holds.owned c.args.of.now.owner.now c.args.variable in
    let stops = can_stop c.args.of.now.patterns.now t (leaf_free c.args.auto.now t b c.args.known.now) c.args.of.now.drawing.now in
    let told = c.mark_all.ensures in
    record { sized = told.sized; stop = λ s here e. told.kept s (c.loop.invariant.stop s here e); sound = told.sound stops c.loop.invariant.sound }

pub returns-clause-free : goal.returns-clause-free
returns-clause-free g c =
    let t = c.args.of.now.table.now in
    let b = g.H.Holds.owned c.args.of.now.owner.now c.args.variable in
    let stops = can_stop c.args.of.now.patterns.now t (leaf_free c.args.auto.now t b c.args.known.now) c.args.of.now.drawing.now in
    let told = c.mark_all.ensures in
    record { sound = told.sound stops c.loop.invariant.sound; stop = λ s here e. told.kept s (c.loop.invariant.stop s here e); settled = told.settled c.loop-test.false }
