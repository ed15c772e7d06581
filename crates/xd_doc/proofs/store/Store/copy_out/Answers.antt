use Rattle.std.proofs.Common.{inl, ⊎_elim, arith, ◌∙◌}
use Rattle.xd_doc.proofs.StoredLemmas.{Keeps-same, Keeps-trans, length-nodes}
use Rattle.xd_doc.proofs.CopyLemmas.{Adds, closed_front, closed_still, copied_all, copied_more, copied_none, copy_here, copy_stays, is_ready, last_in, met_front, met_still}
use Rattle.xd_doc.proofs.store.Store.copy_out.Goals as goal

pub reached_from-requires-clause-place : goal.reached_from-requires-clause-place
reached_from-requires-clause-place c = rw (length-nodes c.self.inside.nodes c.args.self.now c.self.view_is) c.requires.place

pub loop-place-init : goal.loop-place-init
loop-place-init c =
    let n = length-nodes c.self.inside.nodes c.args.self.now c.self.view_is in
    let view = c.self.view_is in
    record {
      copied = λ i h. absurd (copied_none c.in_ok-copies.copies c.in_ok-copies.ensures.empty i h);
      keeps = Keeps-same _;
      start = met_still _ _ c.in_ok-reached.reached.items _ (λ i w. ⊎_elim (λ h. inl h) (λ h. absurd h) w) c.args.seq.node c.in_ok-reached.ensures.start;
      closed = closed_still _ _ _ c.in_ok-reached.reached.items c.in_ok-reached.ensures.closed (λ i h. absurd h);
      once = omega (arith, c.in_ok-reached.ensures.once);
      few = let f = c.in_ok-reached.ensures.few in omega (arith, rw view at f);
    }

pub index-requires : goal.index-requires
index-requires c = last_in c.self.inside.nodes _ _ _ c.in-Some.place c.loop-place.invariant.closed c.in-Some.ensures.items

pub copy_node-requires-clause-item : goal.copy_node-requires-clause-item
copy_node-requires-clause-item c =
    (is_ready _ _ _ c.loop-place.copies _ _ c.in-Some.place _ c.self.invariant c.self.view_is c.loop-place.invariant.copied c.loop-place.invariant.closed c.in-Some.ensures.items c.index.ensures).item

pub copy_node-requires-clause-bare : goal.copy_node-requires-clause-bare
copy_node-requires-clause-bare c =
    (is_ready _ _ _ c.loop-place.copies _ _ c.in-Some.place _ c.self.invariant c.self.view_is c.loop-place.invariant.copied c.loop-place.invariant.closed c.in-Some.ensures.items c.index.ensures).bare

pub copy_node-requires-clause-content : goal.copy_node-requires-clause-content
copy_node-requires-clause-content c =
    (is_ready _ _ _ c.loop-place.copies _ _ c.in-Some.place _ c.self.invariant c.self.view_is c.loop-place.invariant.copied c.loop-place.invariant.closed c.in-Some.ensures.items c.index.ensures).content

pub copy_node-requires-clause-next : goal.copy_node-requires-clause-next
copy_node-requires-clause-next c =
    (is_ready _ _ _ c.loop-place.copies _ _ c.in-Some.place _ c.self.invariant c.self.view_is c.loop-place.invariant.copied c.loop-place.invariant.closed c.in-Some.ensures.items c.index.ensures).next

pub loop-place-preserved : goal.loop-place-preserved
loop-place-preserved c =
    let i = c.loop-place.invariant in
    let ready = is_ready _ _ _ c.loop-place.copies _ _ c.in-Some.place _ c.self.invariant c.self.view_is i.copied i.closed c.in-Some.ensures.items c.index.ensures in
    let adds : Adds c.loop-place.copies c.in-Some.place c.in_ok-copy.copy c.insert.new.self = record { at = c.in_ok-insert.ensures.updates.0; here = c.in_ok-insert.ensures.updates.1 } in
    let stays = copy_stays _ _ _ _ adds in
    let here = copy_here _ _ _ _ adds in
    let closed = i.closed in
    let start = i.start in
    let e = c.in-Some.ensures.items in
    record {
      copied = copied_more _ _ _ _ _ _ _ i.copied c.in_ok-copy.ensures.keeps adds c.in_ok-copy.ensures.belongs (c.in_ok-copy.ensures.ok ∙ ready.document);
      keeps = Keeps-trans _ _ _ i.keeps c.in_ok-copy.ensures.keeps;
      start = met_front _ _ c.pop.new.self.items c.in-Some.place c.args.seq.node (rw e at start) stays here;
      closed = closed_front _ _ _ c.pop.new.self.items c.in-Some.place (rw e at closed) stays here;
      once = omega (arith, i.once, c.in_ok-copy.ensures.one, c.in-Some.ensures.len);
      few = omega (arith, i.few, c.in_ok-copy.ensures.one, c.in-Some.ensures.len);
    }

pub returns-in_err-copy-clause-keeps : goal.returns-in_err-copy-clause-keeps
returns-in_err-copy-clause-keeps c = Keeps-trans _ _ _ c.loop-place.invariant.keeps c.copy_node.ensures.keeps

pub returns-in_err-copy-clause-once : goal.returns-in_err-copy-clause-once
returns-in_err-copy-clause-once c = omega (arith, c.loop-place.invariant.once, c.copy_node.ensures.one, c.in-Some.ensures.len)

pub returns-in_err-copy-clause-few : goal.returns-in_err-copy-clause-few
returns-in_err-copy-clause-few c = omega (arith, c.loop-place.invariant.few, c.copy_node.ensures.one, c.in-Some.ensures.len)

pub returns-in_err-insert-clause-keeps : goal.returns-in_err-insert-clause-keeps
returns-in_err-insert-clause-keeps c = Keeps-trans _ _ _ c.loop-place.invariant.keeps c.in_ok-copy.ensures.keeps

pub returns-in_err-insert-clause-once : goal.returns-in_err-insert-clause-once
returns-in_err-insert-clause-once c = omega (arith, c.loop-place.invariant.once, c.in_ok-copy.ensures.one, c.in-Some.ensures.len)

pub returns-in_err-insert-clause-few : goal.returns-in_err-insert-clause-few
returns-in_err-insert-clause-few c = omega (arith, c.loop-place.invariant.few, c.in_ok-copy.ensures.one, c.in-Some.ensures.len)

pub returns-clause-ok : goal.returns-clause-ok
returns-clause-ok c =
    let i = c.loop-place.invariant in
    rw c.copy_of.ensures (copied_all c.loop-place.reached _ _ _ _ i.copied i.start c.in_default.ensures.cases.0).same

pub returns-clause-belongs : goal.returns-clause-belongs
returns-clause-belongs c =
    let i = c.loop-place.invariant in
    rw c.copy_of.ensures (copied_all c.loop-place.reached _ _ _ _ i.copied i.start c.in_default.ensures.cases.0).belongs
