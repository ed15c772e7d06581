use Rattle.std.proofs.Common.{◌≡◌, ◌++◌, ◌∷◌, [], true, ap, subst, ◌∙◌}
use Rattle.xd_doc.proofs.Lists.{all_step}
use Rattle.xd_auto.specs.declared.auto.LabelMove.{LabelMove}
use Rattle.xd_boole.specs.declared.groups.MoveSide.{MoveSide}
use Rattle.xd_boole.specs.Groups.{is_side, label_side}
use Rattle.xd_boole.specs.Disjoint.{AreDisjointSides}
use Rattle.xd_boole.proofs.DisjointLemmas.{move_disjoint, near_all, near_dropped, near_kept, near_none}
use Rattle.xd_boole.proofs.disjoint.near_moves.Goals as goal

pub are_sides_disjoint-requires-clause-other : goal.are_sides_disjoint-requires-clause-other
are_sides_disjoint-requires-clause-other c =
    let b = c.args.two.now in
    let next = all_step (λ m. is_side b (label_side m) ≡ true) c.args.moves.now c.loop-step.step-index c.step-item.result c.loop-step-test.true c.step-item.is c.loop-step.invariant.left in
    ap (is_side b) c.side_of.ensures ∙ next.0

pub loop-step-preserved-then-are_sides_disjoint : goal.loop-step-preserved-then-are_sides_disjoint
loop-step-preserved-then-are_sides_disjoint c =
    let a = c.args.one.now in
    let b = c.args.two.now in
    let moves = c.args.moves.now in
    let i = c.loop-step.step-index in
    let m = c.step-item.result in
    let next = all_step (λ m. is_side b (label_side m) ≡ true) moves i m c.loop-step-test.true c.step-item.is c.loop-step.invariant.left in
    let apart = subst (λ (s : MoveSide). AreDisjointSides a b c.args.part s) c.side_of.ensures (c.are_sides_disjoint.ensures c.if-are_sides_disjoint.true) in
    record {
      near = near_dropped a b c.args.part moves i m c.loop-step-test.true c.step-item.is c.loop-step.near.items c.loop-step.invariant.near (move_disjoint a b c.args.part m apart);
      left = next.1;
    }

pub loop-step-preserved : goal.loop-step-preserved
loop-step-preserved c =
    let b = c.args.two.now in
    let moves = c.args.moves.now in
    let i = c.loop-step.step-index in
    let m = c.step-item.result in
    let next = all_step (λ m. is_side b (label_side m) ≡ true) moves i m c.loop-step-test.true c.step-item.is c.loop-step.invariant.left in
    record {
      near = near_kept c.args.one.now b c.args.part moves i m c.loop-step-test.true c.step-item.is c.loop-step.near.items c.loop-step.invariant.near c.push.new.self.items
          (c.in_ok-push.ensures.items ∙ ap (λ (x : LabelMove). c.loop-step.near.items ++ x ∷ []) c.in_ok-share.ensures);
      left = next.1;
    }

pub loop-step-init : goal.loop-step-init
loop-step-init c = record {
  near = near_none c.args.one.now c.args.two.now c.args.part c.args.moves.now c.new-near.result.items c.new-near.ensures.items;
  left = c.requires.moves;
}

pub returns : goal.returns
returns c = near_all c.args.one.now c.args.two.now c.args.part c.args.moves.now c.loop-step.step-index c.loop-step.near.items c.loop-step-test.false c.loop-step.invariant.near
