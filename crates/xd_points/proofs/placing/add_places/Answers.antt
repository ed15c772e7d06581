use Rattle.std.proofs.Common.{◌≡◌, ℕ, ◌++◌, ◌∷◌, [], length, arith, refl, subst, sym, length-append, ap}
use Rattle.xd_auto.proofs.ExtendsLemmas.{Extends-same, extends_then}
use Rattle.xd_points.specs.Placing.{IsBareAt, IsPlaceOf}
use Rattle.xd_points.proofs.PlaceLemmas.{keeps_more, keeps_none, more_bare, more_places, places_none}
use Rattle.xd_points.proofs.placing.add_places.Goals as goal

pub returns-in_err-place-clause-extends : goal.returns-in_err-place-clause-extends
returns-in_err-place-clause-extends c = extends_then c.args.auto.now c.loop-number.auto' c.place_of.new.auto c.loop-number.invariant.extends c.place_of.ensures.extends

pub returns-in_err-push-clause-extends : goal.returns-in_err-push-clause-extends
returns-in_err-push-clause-extends c = extends_then c.args.auto.now c.loop-number.auto' c.place_of.new.auto c.loop-number.invariant.extends c.place_of.ensures.extends

pub loop-number-preserved : goal.loop-number-preserved
loop-number-preserved c =
    let old = c.args.auto.now in
    let mid = c.loop-number.auto' in
    let new = c.place_of.new.auto in
    let tk = c.args.patterns.now in
    let p = c.args.points.now in
    let known = c.args.known.now in
    let start = c.args.places.now.items in
    let base = length start in
    let places = c.loop-number.places.items in
    let w = c.in_ok-place.place in
    let h = c.loop-number.invariant in
    let is : c.push.new.self.items ≡ places ++ w ∷ [] = c.in_ok-push.ensures.items in
    let here : c.loop-number.number ≡ length places = sym h.count in
    let longer = ap length is in
    let there : IsPlaceOf tk mid new p known (length places) w = subst (λ (k : ℕ). IsPlaceOf tk mid new p known k w) here c.in_ok-place.ensures.place in
    let bare_there : IsBareAt new p (length places) w = subst (λ (k : ℕ). IsBareAt new p k w) here c.in_ok-place.ensures.bare in
    record {
      count = omega (arith, longer, length-append places (w ∷ []), here);
      kept = keeps_more start places c.push.new.self.items w is h.kept;
      places = more_places tk old mid new p known h.extends c.place_of.ensures.extends base places c.push.new.self.items w is h.places h.bare there bare_there;
      bare = more_bare tk old mid new p known h.extends c.place_of.ensures.extends base places c.push.new.self.items w is h.places h.bare there bare_there;
      extends = extends_then old mid new h.extends c.place_of.ensures.extends;
    }

pub loop-number-init : goal.loop-number-init
loop-number-init c = record {
  count = omega (arith, c.args.places.now.ok.0);
  kept = keeps_none c.args.places.now.items;
  places = places_none c.args.patterns.now c.args.auto.now c.args.points.now c.args.known.now c.args.places.now.items;
  bare = λ i from lt. absurd (omega arith);
  extends = Extends-same c.args.auto.now c.args.auto.now refl;
}

pub returns-clause-bare : goal.returns-clause-bare
returns-clause-bare c = record { done = λ i s since lt there e. absurd (omega arith); bare = λ i from lt. c.loop-number.invariant.bare i from lt }
