use Rattle.std.proofs.Common.{◌≡◌, arith, length, refl, ◌∙◌}
use Rattle.xd_sound.proofs.EmptyLemmas.{listed_more, marking_none, exact}
use Rattle.xd_sound.proofs.empty.empty_types.Goals as goal

pub loop-at-init : goal.loop-at-init
loop-at-init c =
    rw (c.new-marks.ensures.items, c.new-waiting.ensures.items) (record { count = refl; none = λ i. refl; all = λ i l. absurd (omega arith); within = λ i a. absurd a })

pub loop-at-preserved : goal.loop-at-preserved
loop-at-preserved c =
    rw (c.in_ok-push.ensures.items, c.in_ok-push-2.ensures.items) (listed_more c.loop-at.marks.items c.loop-at.waiting.items c.loop-at.at c.loop-at.invariant)

pub spread-requires-clause-marking : goal.spread-requires-clause-marking
spread-requires-clause-marking c =
    let i = c.loop-at.invariant in
    let t = c.loop-at-test.false in
    let a = c.loop-at.auto.at-end in
    let n = c.len-at-end.ensures in
    let e : c.loop-at.at ≡ length c.args.types.now = omega arith in
    marking_none c.args.types.now c.args.defs.now c.loop-at.marks.items c.loop-at.waiting.items (i.count ∙ e) i.none
    (λ j l. i.all j (omega arith)) (λ j m. (let k = i.within j m in omega arith))

pub returns : goal.returns
returns c = exact c.args.types.now c.args.defs.now c.spread.new.marks.items c.in_ok-add_dependents.ensures.built c.requires.stand c.in_ok-spread.ensures
