use Rattle.std.proofs.Common.{◌≡◌, ◌<◌, ◌∙◌, ap, sym, refl, Some, [], ◌∷◌, arith, length, length-append}
use Rattle.std.proofs.lemmas.Option.{slice_get_read}
use Rattle.xd_points.proofs.OperationLemmas.{new_accepts_nothing}
use Rattle.xd_bind.specs.declared.tracks.Binding.{Binding}
use Rattle.xd_bind.specs.Projection.{IsBindingOf, owned_by}
use Rattle.xd_given.proofs.ProjectLemmas.{nothing_given}
use Rattle.xd_given.proofs.Elements.{elements_more}
use Rattle.xd_given.proofs.projecting.nothing_bound.Goals as goal

pub loop-number-preserved : goal.loop-number-preserved
loop-number-preserved c =
    let n = c.loop-number.number in
    let tracks = c.args.tracks.now in
    let within : n < length tracks.variables.items = omega arith in
    let made = c.add_state.new.self in
    let binding : Binding = record { variable = c.in_ok-variable.variable; auto = made; state = c.in_ok-state.state } in
    let last : IsBindingOf tracks n binding = record {
      variable = slice_get_read tracks.variables.items (length tracks.variables.items) n c.index.result.now refl within c.index.ensures ∙ ap Some (sym c.in_ok-variable.ensures);
      belongs = c.in_ok-state.ensures.belongs;
      given = nothing_given tracks.auto (owned_by tracks.marks.items n) tracks.start made c.in_ok-state.state c.requires
          (new_accepts_nothing c.new-auto.result made c.in_ok-state.state c.in_ok-state.ensures.ok.0 c.in_ok-state.ensures.ok.1);
    } in
    record {
      count = omega (arith, ap length c.in_ok-push.ensures.items, length-append c.loop-number.bindings.items (binding ∷ []), c.loop-number.invariant.count);
      each = rw c.in_ok-push.ensures.items (elements_more (IsBindingOf tracks) c.loop-number.bindings.items n binding c.loop-number.invariant.count c.loop-number.invariant.each last);
    }

pub returns : goal.returns
returns c =
    let all : c.loop-number.number ≡ length c.args.tracks.now.variables.items = omega arith in
    record {
      count = c.loop-number.invariant.count ∙ all;
      each = λ x d lt. c.loop-number.invariant.each x d (omega (arith, c.loop-number.invariant.count));
    }
