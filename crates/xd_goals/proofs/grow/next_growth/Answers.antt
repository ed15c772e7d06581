use Rattle.std.proofs.lemmas.Result.{IfOk-from_err}
use Rattle.std.proofs.Common.{arith}
use Rattle.xd_goals.specs.Kept.{view_of}
use Rattle.xd_state_heads.specs.Moves.{claim_with}
use Rattle.xd_goals.specs.Standing.{IsSeparatedBy}
use Rattle.xd_goals.proofs.GrowsByLemmas.{Grows-then}
use Rattle.xd_goals.proofs.HasGrownLemmas.{grown-same, grown-step, grown-then}
use Rattle.xd_goals.proofs.IsSeparatedByLemmas.{leaf_separated, taker_free}
use Rattle.xd_goals.proofs.Trees.{content_leaf, read_open, rest_leaf}
use Rattle.xd_goals.proofs.grow.next_growth.Goals as goal
use Rattle.xd_goals.proofs.grow.next_growth.Goals.{In-Refuted-standing}

pub returns-in_default : goal.returns-in_default
returns-in_default c = record {
  grows = grown-step (grown-step (grown-same c.requires.consistent c.requires.right) c.leaf.ensures.consistent c.leaf.ensures.grows) c.in_ok-leaf.ensures.consistent c.in_ok-leaf.ensures.grows;
  growth = content_leaf c.args.setting.now.task c.args.setting.now.sides.now c.args.contents.now c.args.rests.now (view_of c.leaf.new.goals) (view_of c.add_node.new.goals) c.in_ok-content.content c.in_ok-leaf.leaf
      c.in_ok-content.ensures.ok (read_open c.leaf.new.goals.rows.items c.in_ok-content.content.number c.standing.result c.standing.ensures c.in_default.not-Refuted) c.in_ok-leaf.ensures.grows c.in_ok-leaf.ensures.found;
}

pub returns-in_default-standing : goal.returns-in_default-standing
returns-in_default-standing c = record {
  grows = grown-step (grown-step (grown-step (grown-same c.requires.consistent c.requires.right) c.leaf.ensures.consistent c.leaf.ensures.grows) c.leaf-2.ensures.consistent c.leaf-2.ensures.grows) c.in_ok-leaf-2.ensures.consistent c.in_ok-leaf-2.ensures.grows;
  growth = rest_leaf c.args.setting.now.task c.args.setting.now.sides.now c.args.contents.now c.args.rests.now (view_of c.leaf-2.new.goals) (view_of c.add_node-in_default-standing.new.goals) c.in_ok-rest.rest c.in_ok-leaf-2.leaf
      c.in_ok-rest.ensures.ok (read_open c.leaf-2.new.goals.rows.items c.in_ok-rest.rest.number c.standing-2.result c.standing-2.ensures c.in_default-standing.not-Refuted) c.in_ok-leaf-2.ensures.grows c.in_ok-leaf-2.ensures.found;
}

pub taker-requires-clause-content : goal.taker-requires-clause-content
taker-requires-clause-content c = rw c.requires.states at c.requires.path.content_below

pub taker-requires-clause-rest : goal.taker-requires-clause-rest
taker-requires-clause-rest c = rw c.requires.states at c.requires.path.rest_below

pub taker-requires-clause-contents : goal.taker-requires-clause-contents
taker-requires-clause-contents c = rw c.requires.states at c.requires.path.contents_below

pub taker-requires-clause-rests : goal.taker-requires-clause-rests
taker-requires-clause-rests c = rw c.requires.states at c.requires.path.rests_below

-- what the documents say that refute the two leaves' goals
inside_separates : (c : In-Refuted-standing) → IsSeparatedBy c.args.setting.now.auto.now c.args.setting.now.store.now (claim_with c.args.setting.now.task.content c.args.contents.now) c.in-Refuted.inside
inside_separates c =
    leaf_separated c.args.setting.now.auto.now c.args.setting.now.store.now (view_of c.args.goals.now) (view_of c.leaf.new.goals) c.in_ok-content.ensures.grows c.requires.separated c.args.setting.now.task.owner
    (claim_with c.args.setting.now.task.content c.args.contents.now) c.in_ok-content.content c.standing.result c.in-Refuted.inside c.in_ok-content.ensures.ok c.standing.ensures c.in-Refuted.is

behind_separates : (c : In-Refuted-standing) → IsSeparatedBy c.args.setting.now.auto.now c.args.setting.now.store.now (claim_with c.args.setting.now.task.rest c.args.rests.now) c.in-Refuted-standing.behind
behind_separates c =
    leaf_separated c.args.setting.now.auto.now c.args.setting.now.store.now (view_of c.args.goals.now) (view_of c.leaf-2.new.goals)
    (Grows-then (view_of c.args.goals.now) (view_of c.leaf.new.goals) (view_of c.leaf-2.new.goals) c.in_ok-content.ensures.grows c.in_ok-rest.ensures.grows) c.requires.separated c.args.setting.now.task.owner
    (claim_with c.args.setting.now.task.rest c.args.rests.now) c.in_ok-rest.rest c.standing-2.result c.in-Refuted-standing.behind c.in_ok-rest.ensures.ok c.standing-2.ensures c.in-Refuted-standing.is

pub taker-requires-clause-inside : goal.taker-requires-clause-inside
taker-requires-clause-inside c = (inside_separates (goal.at.taker-requires-clause-inside c).In-Refuted-standing).belongs

pub taker-requires-clause-behind : goal.taker-requires-clause-behind
taker-requires-clause-behind c = (behind_separates (goal.at.taker-requires-clause-behind c).In-Refuted-standing).belongs

pub returns-in-Some-clause-growth : goal.returns-in-Some-clause-growth
returns-in-Some-clause-growth c =
    let at = (goal.at.returns-in-Some-clause-growth c).In-Refuted-standing in
    taker_free c.args.setting.now.auto.now c.args.setting.now.store.now c.args.setting.now.task.content c.args.setting.now.task.rest c.args.setting.now.sides.now c.args.contents.now c.args.rests.now c.in-Refuted.inside c.in-Refuted-standing.behind c.in-Some.side
    (inside_separates at) (behind_separates at) (rw c.in-Some.is at c.in_ok-side.ensures.found)

pub returns-in-None-clause-growth : goal.returns-in-None-clause-growth
returns-in-None-clause-growth c =
    let at = (goal.at.returns-in-None-clause-growth c).In-Refuted-standing in
    let x = inside_separates at in
    let y = behind_separates at in
    record {
      content_belongs = x.belongs;
      rest_belongs = y.belongs;
      content = x.separates.accepted;
      rest = y.separates.accepted;
      refused = rw c.in-None.is at c.in_ok-side.ensures.found;
    }

pub taker-requires-clause-sides : goal.taker-requires-clause-sides
taker-requires-clause-sides c = rw c.requires.states at c.requires.path.sides_below

pub returns-in_err-content-clause-growth : goal.returns-in_err-content-clause-growth
returns-in_err-content-clause-growth c = IfOk-from_err c.from_residual.result _ c.from_residual.ensures.0

pub returns-in_err-leaf-clause-growth : goal.returns-in_err-leaf-clause-growth
returns-in_err-leaf-clause-growth c = IfOk-from_err c.from_residual-in_err-leaf.result _ c.from_residual-in_err-leaf.ensures.0

pub returns-in_err-rest-clause-growth : goal.returns-in_err-rest-clause-growth
returns-in_err-rest-clause-growth c = IfOk-from_err c.from_residual-in_err-rest.result _ c.from_residual-in_err-rest.ensures.0

pub returns-in_err-side-clause-growth : goal.returns-in_err-side-clause-growth
returns-in_err-side-clause-growth c = IfOk-from_err c.from_residual-in_err-side.result _ c.from_residual-in_err-side.ensures.0

pub returns-in_err-leaf-2 : goal.returns-in_err-leaf-2
returns-in_err-leaf-2 c = record {
  grows = grown-step (grown-step (grown-step (grown-same c.requires.consistent c.requires.right) c.leaf.ensures.consistent c.leaf.ensures.grows) c.leaf-2.ensures.consistent c.leaf-2.ensures.grows) c.add_node-in_default-standing.ensures.consistent c.add_node-in_default-standing.ensures.grows;
  growth = IfOk-from_err c.from_residual-in_err-leaf-2.result _ c.from_residual-in_err-leaf-2.ensures.0;
}

pub leaf-requires-clause-consistent : goal.leaf-requires-clause-consistent
leaf-requires-clause-consistent c = c.requires.consistent

pub leaf-requires-clause-owner : goal.leaf-requires-clause-owner
leaf-requires-clause-owner c = c.requires.owner

pub leaf-requires-clause-left : goal.leaf-requires-clause-left
leaf-requires-clause-left c = c.requires.path.content_below

pub leaf-requires-clause-rights : goal.leaf-requires-clause-rights
leaf-requires-clause-rights c = c.requires.path.contents_below

pub leaf-requires-clause-order : goal.leaf-requires-clause-order
leaf-requires-clause-order c = c.requires.path.contents_order

pub leaf-requires-2-clause-consistent : goal.leaf-requires-2-clause-consistent
leaf-requires-2-clause-consistent c = c.leaf.ensures.consistent

pub leaf-requires-2-clause-owner : goal.leaf-requires-2-clause-owner
leaf-requires-2-clause-owner c = omega (arith, c.leaf.ensures.grows.longer, c.requires.owner)

pub leaf-requires-2-clause-left : goal.leaf-requires-2-clause-left
leaf-requires-2-clause-left c = c.requires.path.rest_below

pub leaf-requires-2-clause-rights : goal.leaf-requires-2-clause-rights
leaf-requires-2-clause-rights c = c.requires.path.rests_below

pub leaf-requires-2-clause-order : goal.leaf-requires-2-clause-order
leaf-requires-2-clause-order c = c.requires.path.rests_order

pub taker-requires-clause-right : goal.taker-requires-clause-right
taker-requires-clause-right c = c.requires.right

pub standing-requires : goal.standing-requires
standing-requires c = c.in_ok-content.ensures.there

pub standing-requires-2 : goal.standing-requires-2
standing-requires-2 c = c.in_ok-rest.ensures.there

pub returns-in_err-content-clause-grows : goal.returns-in_err-content-clause-grows
returns-in_err-content-clause-grows c = grown-step (grown-same c.requires.consistent c.requires.right) c.leaf.ensures.consistent c.leaf.ensures.grows

pub returns-in_err-leaf-clause-grows : goal.returns-in_err-leaf-clause-grows
returns-in_err-leaf-clause-grows c = grown-step (grown-step (grown-same c.requires.consistent c.requires.right) c.leaf.ensures.consistent c.leaf.ensures.grows) c.add_node.ensures.consistent c.add_node.ensures.grows

pub returns-in_err-rest-clause-grows : goal.returns-in_err-rest-clause-grows
returns-in_err-rest-clause-grows c = grown-step (grown-step (grown-same c.requires.consistent c.requires.right) c.leaf.ensures.consistent c.leaf.ensures.grows) c.leaf-2.ensures.consistent c.leaf-2.ensures.grows

pub returns-in_err-side-clause-grows : goal.returns-in_err-side-clause-grows
returns-in_err-side-clause-grows c = grown-then (grown-step (grown-step (grown-same c.requires.consistent c.requires.right) c.leaf.ensures.consistent c.leaf.ensures.grows) c.leaf-2.ensures.consistent c.leaf-2.ensures.grows) (grown-same c.leaf-2.ensures.consistent c.taker.ensures.right)

pub returns-in-Some-clause-grows : goal.returns-in-Some-clause-grows
returns-in-Some-clause-grows c = grown-then (grown-step (grown-step (grown-same c.requires.consistent c.requires.right) c.leaf.ensures.consistent c.leaf.ensures.grows) c.leaf-2.ensures.consistent c.leaf-2.ensures.grows) (grown-same c.leaf-2.ensures.consistent c.taker.ensures.right)

pub returns-in-None-clause-grows : goal.returns-in-None-clause-grows
returns-in-None-clause-grows c = grown-then (grown-step (grown-step (grown-same c.requires.consistent c.requires.right) c.leaf.ensures.consistent c.leaf.ensures.grows) c.leaf-2.ensures.consistent c.leaf-2.ensures.grows) (grown-same c.leaf-2.ensures.consistent c.taker.ensures.right)
