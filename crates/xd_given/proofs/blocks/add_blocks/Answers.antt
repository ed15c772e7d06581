use Rattle.std.proofs.Common.{◌≤◌, ◌+◌, map, length, length-append, ap, arith}
use Rattle.std.proofs.lemmas.List.{length-map}
use Rattle.xd_auto.specs.Automaton.{no_moves}
use Rattle.xd_points.specs.Tables.{point_count}
use Rattle.xd_given.proofs.FillLemmas.{states_of_same}
use Rattle.xd_given.proofs.GivenLemmas.{blocks_belong}
use Rattle.xd_given.proofs.blocks.add_blocks.Goals as goal

pub fill_blocks-requires-clause-blocks : goal.fill_blocks-requires-clause-blocks
fill_blocks-requires-clause-blocks g c =
    let p = c.args.of.now.patterns.now in
    let t = c.args.of.now.table.now in
    let b = g.H.Holds.owned c.args.of.now.owner.now c.args.variable in
    let more = c.in_ok-add_states.ensures in
    let room : c.len-base.result + point_count t ≤ length c.add_states.new.auto =
    omega (arith, ap length more.ok, length-append c.args.auto.now (map no_moves c.args.free.now), length-map c.args.free.now no_moves, c.requires.count, c.len-base.ensures.value) in
    rw c.deref.ensures.value
    (blocks_belong c.add_states.new.auto p t b c.len-base.result c.in_ok-blocks.blocks.items room (λ s lt. more.extends.states _ (c.requires.lefts s lt)) c.in_ok-blocks.ensures)

pub returns-clause-belong : goal.returns-clause-belong
returns-clause-belong g c =
    let p = c.args.of.now.patterns.now in
    let t = c.args.of.now.table.now in
    let b = g.H.Holds.owned c.args.of.now.owner.now c.args.variable in
    let more = c.in_ok-add_states.ensures in
    let room : c.len-base.result + point_count t ≤ length c.add_states.new.auto =
    omega (arith, ap length more.ok, length-append c.args.auto.now (map no_moves c.args.free.now), length-map c.args.free.now no_moves, c.requires.count, c.len-base.ensures.value) in
    states_of_same c.add_states.new.auto c.fill_blocks.new.auto c.in_ok-blocks.blocks.items c.in_ok-fill_blocks.ensures.filled.states
    (blocks_belong c.add_states.new.auto p t b c.len-base.result c.in_ok-blocks.blocks.items room (λ s lt. more.extends.states _ (c.requires.lefts s lt)) c.in_ok-blocks.ensures)
