use Rattle.std.proofs.Common.{◌≡◌, ◌<◌, ◌∙◌, ap, sym, subst, Some, [], ◌∷◌, arith, length, length-append}
use Rattle.xd_bind.specs.declared.tracks.Binding.{Binding}
use Rattle.xd_bind.specs.declared.tracks.Given.{Given}
use Rattle.xd_bind.specs.Projection.{IsBindingOf, IsGivenOf, owned_by}
use Rattle.xd_given.proofs.Elements.{elements_more, given_by_same}
use Rattle.xd_given.proofs.projecting.bindings_of.Goals as goal

pub inhabited_part-requires : goal.inhabited_part-requires
inhabited_part-requires c =
    let n = c.loop-number.number in
    let tracks = c.args.tracks.now in
    let within : n < length c.args.givens.now = omega arith in
    let one = subst (λ (w : Given). IsGivenOf tracks.auto (owned_by tracks.marks.items) tracks.start tracks.variables.items c.args.made.now n w) (sym c.index-givens-number.is) (c.requires.each n c.index-givens-number.result within) in
    one.belongs

pub loop-number-preserved : goal.loop-number-preserved
loop-number-preserved c =
    let n = c.loop-number.number in
    let tracks = c.args.tracks.now in
    let given = c.index-givens-number.result in
    let within : n < length c.args.givens.now = omega arith in
    let one = subst (λ (w : Given). IsGivenOf tracks.auto (owned_by tracks.marks.items) tracks.start tracks.variables.items c.args.made.now n w) (sym c.index-givens-number.is) (c.requires.each n given within) in
    let binding : Binding = record { variable = c.in_ok-variable.variable; auto = c.in_ok-auto.auto; state = c.in_ok-auto.state } in
    let last : IsBindingOf tracks n binding = record {
      variable = one.variable ∙ ap Some (sym c.in_ok-variable.ensures);
      belongs = c.in_ok-auto.ensures.start;
      given = given_by_same tracks.auto (owned_by tracks.marks.items n) tracks.start c.args.made.now c.in_ok-auto.auto given.state c.in_ok-auto.state one.given c.in_ok-auto.ensures.exact;
    } in
    record {
      count = omega (arith, ap length c.in_ok-push.ensures.items, length-append c.loop-number.bindings.items (binding ∷ []), c.loop-number.invariant.count);
      each = rw c.in_ok-push.ensures.items (elements_more (IsBindingOf tracks) c.loop-number.bindings.items n binding c.loop-number.invariant.count c.loop-number.invariant.each last);
    }

pub returns : goal.returns
returns c =
    let all : c.loop-number.number ≡ length c.args.givens.now = omega arith in
    record {
      count = c.loop-number.invariant.count ∙ all ∙ c.requires.count;
      each = λ x d lt. c.loop-number.invariant.each x d (omega (arith, c.loop-number.invariant.count));
    }
