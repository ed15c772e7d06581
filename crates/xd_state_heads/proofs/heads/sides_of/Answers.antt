use Rattle.std.proofs.Common.{List, refl, sym, ap, subst, ◌∙◌}
use Rattle.std.specs.List.{flat_map}
use Rattle.xd_doc.proofs.Lists.{all_get}
use Rattle.xd_auto.specs.Automaton.{IsState}
use Rattle.xd_auto.specs.declared.auto.State.{State}
use Rattle.xd_state_heads.specs.Moves.{heads_of}
use Rattle.xd_state_heads.specs.Wants.{matching_sides}
use Rattle.std.proofs.lemmas.List.{take_all}
use Rattle.xd_state_heads.proofs.Sides.{rights_more, count_more}
use Rattle.xd_state_heads.proofs.heads.sides_of.Goals as goal

pub loop-place-preserved : goal.loop-place-preserved
loop-place-preserved c = record {
  made = rights_more c.args.auto.now c.args.atom.now c.args.rights.now c.loop-place.place c.state_at-state.result c.loop-place.before c.loop-place.sides.items c.add_sides.new.sides.items c.loop-place-test.true c.state_at-state.ensures
      c.loop-place.invariant.count c.loop-place.invariant.made c.in_ok-add_sides.ensures;
  count = count_more c.args.auto.now c.args.rights.now c.loop-place.place c.state_at-state.result c.loop-place.before c.in_ok-count.count c.loop-place-test.true c.state_at-state.ensures c.loop-place.invariant.count c.in_ok-count.ensures;
  end_is = refl;
}

pub loop-place-init : goal.loop-place-init
loop-place-init c = record { made = c.new-sides.ensures.items; count = refl; end_is = refl }

pub count_heads-requires : goal.count_heads-requires
count_heads-requires c = subst (IsState c.args.auto.now) (sym c.state_at-state.ensures) (all_get (IsState c.args.auto.now) c.args.rights.now c.loop-place.place c.state_at-state.result c.requires c.loop-place-test.true)

pub add_sides-requires-clause-state : goal.add_sides-requires-clause-state
add_sides-requires-clause-state c = subst (IsState c.args.auto.now) (sym c.state_at-state.ensures) (all_get (IsState c.args.auto.now) c.args.rights.now c.loop-place.place c.state_at-state.result c.requires c.loop-place-test.true)

pub returns : goal.returns
returns c =
    c.loop-place.invariant.made
    ∙ ap (λ (ss : List State). matching_sides c.args.atom.now 1 (flat_map (heads_of c.args.auto.now) ss)) (take_all c.loop-place.place c.args.rights.now c.loop-place-test.false)
