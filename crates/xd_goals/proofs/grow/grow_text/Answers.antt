use Rattle.std.proofs.lemmas.Result.{IfOk-from_err}
use Rattle.std.proofs.Common.{◌≡◌, List, [], Some, subst, sym, ◌∙◌}
use Rattle.xd_auto.specs.declared.auto.State.{State}
use Rattle.xd_state_heads.specs.Moves.{claim_with}
use Rattle.xd_goals.specs.Rows.{claim_at}
use Rattle.xd_goals.specs.Kept.{view_of}
use Rattle.xd_goals.proofs.GrowsByLemmas.{Grows-same, Grows-then}
use Rattle.xd_goals.proofs.Trees.{gathered-below, gathered-order, text_leaf, read_open}
use Rattle.xd_goals.proofs.grow.grow_text.Goals as goal

pub leaf-requires-clause-rights : goal.leaf-requires-clause-rights
leaf-requires-clause-rights c =
    rw (c.deref.ensures.value, c.in_ok-rests.ensures) (gathered-below c.args.task.states [] c.args.sides.now tt c.requires.path.sides_below)

pub leaf-requires-clause-order : goal.leaf-requires-clause-order
leaf-requires-clause-order c = rw (c.deref.ensures.value, c.in_ok-rests.ensures) (gathered-order [] c.args.sides.now tt)

pub returns : goal.returns
returns c = record {
  consistent = c.in_ok-add_node-in_default.ensures.consistent;
  grows = Grows-then (view_of c.args.goals.now) (view_of c.leaf.new.goals) (view_of c.add_node.new.goals) c.in_ok-rest.ensures.grows c.in_ok-add_node-in_default.ensures.grows;
  grown = text_leaf c.args.task c.args.sides.now (view_of c.leaf.new.goals) (view_of c.add_node.new.goals) c.in_ok-rest.rest c.in_ok-add_node-in_default.field-0 c.deref.result.now (c.deref.ensures.value ∙ c.in_ok-rests.ensures)
      c.in_ok-rest.ensures.ok (read_open c.leaf.new.goals.rows.items c.in_ok-rest.rest.number c.standing.result c.standing.ensures c.in_default.not-Refuted) c.in_ok-add_node-in_default.ensures.grows c.in_ok-add_node-in_default.ensures.found;
}

pub returns-in_err-rests-clause-grows : goal.returns-in_err-rests-clause-grows
returns-in_err-rests-clause-grows c = Grows-same (view_of c.args.goals.now)

pub returns-in_err-add_node-in_default-clause-grows : goal.returns-in_err-add_node-in_default-clause-grows
returns-in_err-add_node-in_default-clause-grows c = Grows-then (view_of c.args.goals.now) (view_of c.leaf.new.goals) (view_of c.add_node.new.goals) c.leaf.ensures.grows c.add_node.ensures.grows

pub returns-in-Refuted-clause-grown : goal.returns-in-Refuted-clause-grown
returns-in-Refuted-clause-grown c = record {
  goal = c.in_ok-rest.rest.number;
  claim = subst (λ (ss : List State). claim_at c.leaf.new.goals.rows.items c.in_ok-rest.rest.number ≡ Some (claim_with c.args.task.rest ss)) (c.deref.ensures.value ∙ c.in_ok-rests.ensures) c.in_ok-rest.ensures.ok.claim;
  refuted = sym c.standing.ensures ∙ c.in-Refuted.is;
}

pub returns-in_err-rests-clause-consistent : goal.returns-in_err-rests-clause-consistent
returns-in_err-rests-clause-consistent c = c.requires.consistent

pub returns-in_err-rests-clause-grown : goal.returns-in_err-rests-clause-grown
returns-in_err-rests-clause-grown c = IfOk-from_err c.from_residual.result _ c.from_residual.ensures.0

pub returns-in_err-rest-clause-consistent : goal.returns-in_err-rest-clause-consistent
returns-in_err-rest-clause-consistent c = c.leaf.ensures.consistent

pub returns-in_err-rest-clause-grows : goal.returns-in_err-rest-clause-grows
returns-in_err-rest-clause-grows c = c.leaf.ensures.grows

pub returns-in_err-rest-clause-grown : goal.returns-in_err-rest-clause-grown
returns-in_err-rest-clause-grown c = IfOk-from_err c.from_residual-in_err-rest.result _ c.from_residual-in_err-rest.ensures.0

pub returns-in_err-add_node-in_default-clause-consistent : goal.returns-in_err-add_node-in_default-clause-consistent
returns-in_err-add_node-in_default-clause-consistent c = c.add_node.ensures.consistent

pub returns-in_err-add_node-in_default-clause-grown : goal.returns-in_err-add_node-in_default-clause-grown
returns-in_err-add_node-in_default-clause-grown c = IfOk-from_err c.from_residual-in_err-add_node-in_default.result _ c.from_residual-in_err-add_node-in_default.ensures.0

pub returns-in-Refuted-clause-consistent : goal.returns-in-Refuted-clause-consistent
returns-in-Refuted-clause-consistent c = c.leaf.ensures.consistent

pub returns-in-Refuted-clause-grows : goal.returns-in-Refuted-clause-grows
returns-in-Refuted-clause-grows c = c.leaf.ensures.grows

pub leaf-requires-clause-consistent : goal.leaf-requires-clause-consistent
leaf-requires-clause-consistent c = c.requires.consistent

pub leaf-requires-clause-owner : goal.leaf-requires-clause-owner
leaf-requires-clause-owner c = c.requires.owner

pub leaf-requires-clause-left : goal.leaf-requires-clause-left
leaf-requires-clause-left c = c.requires.path.rest_below

pub standing-requires : goal.standing-requires
standing-requires c = c.in_ok-rest.ensures.there
