use Rattle.std.proofs.Common.{◌≡◌, ◌<◌, ◌≤◌, length, refl, arith, sym, subst, ◌∙◌, List, ◌+◌}
use Rattle.xd_auto.specs.Automaton.{Automaton}
use Rattle.xd_points.specs.declared.placing.Place.{Place}
use Rattle.xd_points.specs.Placing.{AreIn, IsPlaced, PlacesFirst, place_at}
use Rattle.xd_points.proofs.PlaceLemmas.{PlacesSoFar, each_there, first_accept, first_in, next_so_far, none_so_far, place_read, places_in}
use Rattle.xd_points.proofs.MeaningLaw.{stands}
use Rattle.xd_points.proofs.placing.place_points.Goals as goal
use Rattle.xd_points.proofs.placing.place_points.Goals.{in-New+in_ok-give_moves, in_default}

pub give_moves-requires-clause-places : goal.give_moves-requires-clause-places
give_moves-requires-clause-places c =
    let a = c.args.auto.now in
    let now = c.loop-number.auto' in
    let p = c.args.points.now in
    let known = c.args.known.now in
    let start = c.args.places.now.items in
    let places = c.add_places.new.places.items in
    let h = c.loop-number.invariant in
    let each = each_there c.args.patterns.now a c.add_places.new.auto now p known (length start) places c.loop-number.number c.in_ok-add_places.ensures.places h in
    subst (AreIn now) (sym c.deref.ensures.value)
    (places_in a c.args.patterns.now now p known (length start) places (λ i lt. c.requires.expanded.are.whole.points i (omega (arith, lt, c.in_ok-add_places.ensures.count))) h.extends
    (first_in a now start places c.in_ok-add_places.ensures.kept h.extends c.requires.belong) each)

pub loop-number-preserved : goal.loop-number-preserved
loop-number-preserved c =
    let a = c.args.auto.now in
    let begun = c.add_places.new.auto in
    let now = c.loop-number.auto' in
    let p = c.args.points.now in
    let known = c.args.known.now in
    let base = length c.args.places.now.items in
    let places = c.add_places.new.places.items in
    let n = c.loop-number.number in
    let from : base ≤ n = omega (arith, c.loop-number.auto.number, c.len-first.ensures, c.args.places.now.ok.0) in
    let within : n < length places = omega (arith, c.loop-number-test.true, c.add_places.new.places.ok.0) in
    let at : place_at places n ≡ c.index.result.now = place_read places n c.index.result.now within c.index.ensures in
    elim c.match-index.branch [
      | in-New+in_ok-give_moves w ↦
          let placed : IsPlaced p places w.give_moves.new.auto n w.in-New.state = subst (λ (ps : List Place). IsPlaced p ps w.give_moves.new.auto n w.in-New.state) w.deref.ensures.value w.in_ok-give_moves.ensures.placed in
          subst (λ (x : Automaton). PlacesSoFar a begun x p base places (n + 1)) (sym w.auto'-is)
          (next_so_far c.args.patterns.now a begun now p known base places n c.in_ok-add_places.ensures.places c.loop-number.invariant w.give_moves.new.auto w.in-New.state from within (at ∙ w.in-New.is) w.give_moves.ensures.others placed)
      | in_default w ↦
          subst (λ (x : Automaton). PlacesSoFar a begun x p base places (n + 1)) (sym w.auto'-is)
          (none_so_far c.args.patterns.now a begun now p known base places n c.in_ok-add_places.ensures.places c.loop-number.invariant from within (λ t e. w.in_default.not-New t (sym at ∙ e)))
    ]

pub returns-clause-belong : goal.returns-clause-belong
returns-clause-belong c =
    let a = c.args.auto.now in
    let now = c.loop-number.auto' in
    let p = c.args.points.now in
    let known = c.args.known.now in
    let start = c.args.places.now.items in
    let places = c.add_places.new.places.items in
    let h = c.loop-number.invariant in
    let each = each_there c.args.patterns.now a c.add_places.new.auto now p known (length start) places c.loop-number.number c.in_ok-add_places.ensures.places h in
    places_in a c.args.patterns.now now p known (length start) places (λ i lt. c.requires.expanded.are.whole.points i (omega (arith, lt, c.in_ok-add_places.ensures.count))) h.extends
    (first_in a now start places c.in_ok-add_places.ensures.kept h.extends c.requires.belong) each

pub returns-clause-stands : goal.returns-clause-stands
returns-clause-stands c = λ d i lt.
    let a = c.args.auto.now in
    let now = c.loop-number.auto' in
    let p = c.args.points.now in
    let known = c.args.known.now in
    let start = c.args.places.now.items in
    let places = c.add_places.new.places.items in
    let h = c.loop-number.invariant in
    let count = c.in_ok-add_places.ensures.count in
    let all : length places ≤ c.loop-number.number = omega (arith, c.loop-number-test.false, c.add_places.new.places.ok.0) in
    let each = each_there c.args.patterns.now a c.add_places.new.auto now p known (length start) places c.loop-number.number c.in_ok-add_places.ensures.places h in
    stands a c.args.patterns.now p c.requires.expanded c.len-made.ensures.closed known c.requires.none (length start) places now c.len-old.ensures.closed c.requires.patterns h.extends
    (λ e k below. first_accept a now start places c.len-old.ensures.closed c.in_ok-add_places.ensures.kept h.extends c.requires.belong e k below ∙ c.requires.stands e k below)
    (λ k from there. each k from (omega (arith, there, count)))
    (λ k s from there e. h.first.done k s from (omega (arith, there, all, count)) (omega (arith, there, count)) e)
    d i lt

pub loop-number-init : goal.loop-number-init
loop-number-init c =
    let base = length c.args.places.now.items in
    let n : c.len-first.result ≡ base = omega (arith, c.len-first.ensures, c.args.places.now.ok.0) in
    record {
      first = subst (PlacesFirst c.args.points.now c.add_places.new.places.items c.add_places.new.auto base) (sym n) c.in_ok-add_places.ensures.bare;
      count = refl;
      extends = c.add_places.ensures.extends;
    }
