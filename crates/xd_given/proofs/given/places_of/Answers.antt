use Rattle.std.proofs.Common.{arith}
use Rattle.xd_points.proofs.OperationLemmas.{new_accepts_nothing}
use Rattle.xd_given.proofs.GivenLemmas.{each_place}
use Rattle.xd_given.proofs.given.places_of.Goals as goal

pub returns-clause-places : goal.returns-clause-places
returns-clause-places c p is =
    let nothing = c.in_ok-nothing.nothing in
    let added = c.in_ok-nothing.ensures in
    each_place c.args.auto.now c.add_state.new.self p c.args.table.now c.loop-number.places.items nothing is c.len-states.ensures.closed added.extends added.belongs
    (new_accepts_nothing c.args.auto.now c.add_state.new.self nothing added.ok.0 added.ok.1) (omega (arith, c.loop-number.invariant.0)) (λ x d lt. c.loop-number.invariant.1 x d (omega arith))
