use Rattle.std.proofs.Common.{◌≡◌, ◌∙◌, List, map, ap, arith}
use Rattle.xd_auto.specs.declared.auto.State.{State}
use Rattle.xd_auto.proofs.ExtendsLemmas.{extends_then}
use Rattle.xd_given.specs.Blocks.{there}
use Rattle.xd_given.specs.Outline.{leaf_free}
use Rattle.xd_given.proofs.GivenLemmas.{ahead_points, drawn_count, drawn_leads, given_here, places_belong, states_belong}
use Rattle.xd_given.proofs.given.given_of.Goals as goal

pub outline-requires-clause-count : goal.outline-requires-clause-count
outline-requires-clause-count g c = drawn_count c.args.auto.now c.args.of.now.patterns.now c.args.of.now.table.now c.requires.table c.args.of.now.drawing.now c.requires.drawing

pub add_blocks-requires-clause-drawing : goal.add_blocks-requires-clause-drawing
add_blocks-requires-clause-drawing g c =
    let count = drawn_count c.args.auto.now c.args.of.now.patterns.now c.args.of.now.table.now c.requires.table c.args.of.now.drawing.now c.requires.drawing in omega arith

pub add_blocks-requires-clause-places : goal.add_blocks-requires-clause-places
add_blocks-requires-clause-places g c = places_belong c.args.auto.now c.args.of.now.patterns.now c.args.of.now.table.now c.args.places.now c.requires.places

pub add_blocks-requires-clause-leads : goal.add_blocks-requires-clause-leads
add_blocks-requires-clause-leads g c = drawn_leads c.args.auto.now c.args.of.now.patterns.now c.args.of.now.table.now c.requires.table c.args.of.now.drawing.now c.requires.drawing c.len-points.ensures.closed

pub states_of-requires : goal.states_of-requires
states_of-requires g c =
    let p = c.args.of.now.patterns.now in
    let t = c.args.of.now.table.now in
    let b = g.H.Holds.owned c.args.of.now.owner.now c.args.variable in
    let o = c.in_ok-outline.outline in
    let points = ahead_points c.args.auto.now p t c.requires.table c.args.of.now.drawing.now c.requires.drawing b (leaf_free c.args.auto.now t b c.args.known.now) c.args.start _ o.ahead.items c.in_ok-outline.ensures.outline in
    rw (c.deref-2.ensures.value, c.deref-3.ensures.value) (λ i d lt. let below = points i d lt in omega (arith, below, c.in_ok-blocks.ensures.blocks.count))

pub union_of-requires : goal.union_of-requires
union_of-requires g c =
    let p = c.args.of.now.patterns.now in
    let t = c.args.of.now.table.now in
    let b = g.H.Holds.owned c.args.of.now.owner.now c.args.variable in
    let o = c.in_ok-outline.outline in
    let points = ahead_points c.args.auto.now p t c.requires.table c.args.of.now.drawing.now c.requires.drawing b (leaf_free c.args.auto.now t b c.args.known.now) c.args.start _ o.ahead.items c.in_ok-outline.ensures.outline in
    let blocks = c.in_ok-blocks.blocks.items in
    let is : c.in_ok-states.states.items ≡ map (there blocks) o.ahead.items =
    c.in_ok-states.ensures ∙ ap (λ (bs : List State). map (there bs) c.deref-2.result.now) c.deref-3.ensures.value ∙ ap (λ (ps : List State). map (there blocks) ps) c.deref-2.ensures.value in
    rw c.deref-4.ensures.value
    (states_belong c.add_blocks.new.auto o.ahead.items blocks c.in_ok-states.states.items is (λ i d lt. let below = points i d lt in omega (arith, below, c.in_ok-blocks.ensures.blocks.count)) c.in_ok-blocks.ensures.belong)

pub returns-in_err-first-clause-extends : goal.returns-in_err-first-clause-extends
returns-in_err-first-clause-extends g c = extends_then c.args.auto.now c.add_blocks.new.auto c.union_of.new.auto c.in_ok-blocks.ensures.extends c.in_err-first.ensures.extends

pub returns-clause-extends : goal.returns-clause-extends
returns-clause-extends g c = extends_then c.args.auto.now c.add_blocks.new.auto c.union_of.new.auto c.in_ok-blocks.ensures.extends c.in_ok-first.ensures.extends

pub returns-clause-given : goal.returns-clause-given
returns-clause-given g c =
    let p = c.args.of.now.patterns.now in
    let t = c.args.of.now.table.now in
    let b = g.H.Holds.owned c.args.of.now.owner.now c.args.variable in
    let blocks = c.in_ok-blocks.blocks.items in
    let o = c.in_ok-outline.outline in
    let made = c.in_ok-blocks.ensures in
    let is : c.deref-4.result.now ≡ map (there blocks) o.ahead.items =
    c.deref-4.ensures.value ∙ c.in_ok-states.ensures ∙ ap (λ (bs : List State). map (there bs) c.deref-2.result.now) c.deref-3.ensures.value
    ∙ ap (λ (ps : List State). map (there blocks) ps) c.deref-2.ensures.value in
    given_here c.args.auto.now c.add_blocks.new.auto c.union_of.new.auto p t b c.args.known.now c.args.start c.args.of.now.drawing.now o.free.items o.ahead.items c.args.places.now blocks c.deref-4.result.now c.in_ok-first.first c.requires.table
    c.requires.patterns c.requires.alike c.requires.known c.requires.start c.requires.together c.requires.drawing c.in_ok-outline.ensures.outline c.requires.places made.blocks c.len-states.ensures.closed made.extends
    (rw c.deref.ensures.value at made.filled) is c.in_ok-first.ensures.ok
