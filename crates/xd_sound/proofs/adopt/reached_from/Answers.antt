use Rattle.std.proofs.Common.{◌≡◌, ◌<◌, ◌≤◌, length, arith, ap}
use Rattle.std.proofs.lemmas.List.Elements.{All-contains}
use Rattle.xd_doc.proofs.CopyLemmas.{none_contained}
use Rattle.xd_syntax.specs.Types.{type_numbers}
use Rattle.xd_syntax.specs.Nodes.{parts_of}
use Rattle.xd_syntax.specs.declared.types.TypeId.{TypeId}
use Rattle.xd_sound.proofs.Reached.{Waits, waits, walk_begins, walk_again, walk_on, walk_ends, lighter_again, lighter_on, takes}
use Rattle.xd_syntax.proofs.NodeParts.{parts_viewed}
use Rattle.xd_sound.proofs.adopt.reached_from.Goals as goal

pub loop-at-init : goal.loop-at-init
loop-at-init c =
    let p = c.in_ok-push.ensures in
    record {
      walked = rw c.new-reached.ensures.items (walk_begins _ _ _ _ (omega (arith, c.requires, c.len-above.ensures)) (rw (c.new-waiting.ensures, c.at.ensures) at p));
      bound = omega (arith, c.len-above.ensures);
    }

pub loop-at-smaller : goal.loop-at-smaller
loop-at-smaller c = lighter_again _ _ _ _ (takes _ _ _ c.in-Some.ensures.taken)

pub loop-at-preserved : goal.loop-at-preserved
loop-at-preserved c =
    let i = c.loop-at.invariant in
    record {
      walked = walk_again _ _ _ _ _ _ _ i.walked (takes _ _ _ c.in-Some.ensures.taken) (omega (arith, c.if-at-above.false));
      bound = i.bound;
    }

pub loop-at-smaller-in-Continue-branch-3 : goal.loop-at-smaller-in-Continue-branch-3
loop-at-smaller-in-Continue-branch-3 c =
    let T = c.args.types.now in
    let p = c.in-Some.at in
    let inside : p < length T = omega (arith, c.if-at-above.true, c.loop-at.invariant.bound) in
    let k : c.of.result.at ≡ p = ap (λ (id : TypeId). id.at) c.of.ensures in
    let e : type_numbers c.view.result.parts.now ≡ parts_of T p = parts_viewed _ T p _ _ _ _ c.view.ensures.node c.view.ensures.parts k inside in
    let more : Waits c.pop.new.self (parts_of T p) c.push_all.new.self = waits _ _ _ (rw e at c.in_ok-push_all.ensures) in
    lighter_on _ T p _ _ _ c.see_table.ensures.built inside (takes _ _ _ c.in-Some.ensures.taken) more

pub loop-at-preserved-in-Continue-branch-3 : goal.loop-at-preserved-in-Continue-branch-3
loop-at-preserved-in-Continue-branch-3 c =
    let T = c.args.types.now in
    let p = c.in-Some.at in
    let i = c.loop-at.invariant in
    let inside : p < length T = omega (arith, c.if-at-above.true, i.bound) in
    let k : c.of.result.at ≡ p = ap (λ (id : TypeId). id.at) c.of.ensures in
    let e : type_numbers c.view.result.parts.now ≡ parts_of T p = parts_viewed _ T p _ _ _ _ c.view.ensures.node c.view.ensures.parts k inside in
    let middle = c.pop.new.self in
    let more : Waits middle (parts_of T p) c.push_all.new.self = waits _ _ _ (rw e at c.in_ok-push_all.ensures) in
    record {
      walked = rw c.in_ok-push-2.ensures.items (walk_on _ T _ _ p _ _ _ _ c.see_table.ensures.built inside i.walked (takes _ _ _ c.in-Some.ensures.taken) (omega (arith, c.if-at-above.true))
          (λ j h. All-contains (λ y. y ≤ p) middle j c.in-Some.ensures.greatest h) more);
      bound = omega (arith, inside);
    }

pub returns : goal.returns
returns c = rw c.reverse.ensures.items (walk_ends _ _ _ _ _ c.loop-at.invariant.walked (λ i h. none_contained i (rw c.in_default.ensures.none at h)))
