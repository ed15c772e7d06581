use Rattle.std.proofs.Common.{◌<◌, ◌∙◌, ap, sym, refl, Some, [], ◌∷◌, arith, length, length-append}
use Rattle.std.proofs.lemmas.Option.{slice_get_read}
use Rattle.xd_auto.proofs.ExtendsLemmas.{extends_then}
use Rattle.xd_bind.specs.declared.tracks.Given.{Given}
use Rattle.xd_points.proofs.StayLaws.{serving_stays}
use Rattle.xd_points.proofs.TableLemmas.{tables_stay}
use Rattle.xd_given.specs.Traced.{IsGivenAtOf}
use Rattle.xd_given.proofs.StayLemmas.{accepts_as, given_still, known_still, means_still, places_still}
use Rattle.xd_given.proofs.Elements.{elements_more}
use Rattle.xd_given.proofs.given.add_givens.Goals as goal

pub given_of-requires-clause-table : goal.given_of-requires-clause-table
given_of-requires-clause-table g c =
    tables_stay c.args.auto.now c.loop-number.auto' c.args.of.now.patterns.now c.args.of.now.table.now c.len-states.ensures.closed c.loop-number.invariant.extends c.requires.table

pub given_of-requires-clause-patterns : goal.given_of-requires-clause-patterns
given_of-requires-clause-patterns g c =
    serving_stays c.args.auto.now c.loop-number.auto' c.args.of.now.patterns.now c.len-states.ensures.closed c.loop-number.invariant.extends c.requires.patterns

pub given_of-requires-clause-known : goal.given_of-requires-clause-known
given_of-requires-clause-known g c = known_still c.args.auto.now c.loop-number.auto' c.args.of.now.table.now c.args.known.now c.loop-number.invariant.extends c.requires.known

pub given_of-requires-clause-places : goal.given_of-requires-clause-places
given_of-requires-clause-places g c =
    places_still c.args.auto.now c.loop-number.auto' c.args.of.now.patterns.now c.args.of.now.table.now c.args.places.now c.len-states.ensures.closed c.loop-number.invariant.extends c.requires.table c.requires.places

pub loop-number-preserved : goal.loop-number-preserved
loop-number-preserved g c =
    let n = c.loop-number.number in
    let p = c.args.of.now.patterns.now in
    let t = c.args.of.now.table.now in
    let owned = g.H.Holds.owned c.args.of.now.owner.now in
    let start = c.args.start in
    let vs = c.args.variables.now in
    let a = c.args.auto.now in
    let old = c.loop-number.auto' in
    let new = c.given_of.new.auto in
    let more = c.in_ok-state.ensures.extends in
    let within : n < length vs = omega arith in
    let one : Given = record { variable = c.in_ok-variable.variable; state = c.in_ok-state.state } in
    let last : IsGivenAtOf a p t owned start vs new n one = record {
      variable = slice_get_read vs (length vs) n c.index-variables-number.result refl within c.index-variables-number.is ∙ ap Some (sym c.in_ok-variable.ensures);
      belongs = c.in_ok-state.ensures.belongs;
      given = accepts_as old a p t (owned n) start new new c.in_ok-state.state c.in_ok-state.state
          (λ d. means_still a old p t start d c.len-states.ensures.closed c.loop-number.invariant.extends c.requires.table c.requires.start) (λ d. refl) c.in_ok-state.ensures.given;
    } in
    record {
      extends = extends_then a old new c.loop-number.invariant.extends more;
      count = omega (arith, ap length c.in_ok-push.ensures.items, length-append c.loop-number.givens.items (one ∷ []), c.loop-number.invariant.count);
      each = rw c.in_ok-push.ensures.items
          (elements_more (IsGivenAtOf a p t owned start vs new) c.loop-number.givens.items n one c.loop-number.invariant.count
          (λ x d lt. given_still a p t owned start vs old new x _ c.len-length.ensures.closed more (c.loop-number.invariant.each x d lt)) last);
    }

pub returns-in_err-state-clause-extends : goal.returns-in_err-state-clause-extends
returns-in_err-state-clause-extends g c = extends_then c.args.auto.now c.loop-number.auto' c.given_of.new.auto c.loop-number.invariant.extends c.in_err-state.ensures.extends

pub returns-in_err-variable-clause-extends : goal.returns-in_err-variable-clause-extends
returns-in_err-variable-clause-extends g c = extends_then c.args.auto.now c.loop-number.auto' c.given_of.new.auto c.loop-number.invariant.extends c.in_ok-state.ensures.extends

pub returns-in_err-push-clause-extends : goal.returns-in_err-push-clause-extends
returns-in_err-push-clause-extends g c = extends_then c.args.auto.now c.loop-number.auto' c.given_of.new.auto c.loop-number.invariant.extends c.in_ok-state.ensures.extends
