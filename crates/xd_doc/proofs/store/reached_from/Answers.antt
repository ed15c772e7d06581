use Rattle.std.proofs.Common.{ℕ, ◌≡◌, ◌<◌, ◌≤◌, ◌⊎◌, inl, inr, ⊎_elim, Some, [], ◌∷◌, length, vec_len, refl, sym, ◌∙◌, arith, rules}
use Rattle.std.specs.BinaryHeap.{heap_items, heap_len}
use Rattle.std.specs.List.{Contains}
use Rattle.std.proofs.lemmas.Bool.{cases_lt}
use Rattle.std.proofs.lemmas.List.{get_or_default}
use Rattle.std.proofs.lemmas.List.Elements.{All-contains, Contains-push, Contains-append_left}
use Rattle.std.proofs.lemmas.List.Sorted.{le_from_greatest}
use Rattle.xd_doc.specs.StoredSeq.{IsBelow}
use Rattle.xd_doc.specs.StoreNodes.{documents}
use Rattle.xd_doc.proofs.StoredLemmas.{stands_in}
use Rattle.xd_doc.proofs.CopyLemmas.{IsLast, none_contained, closed_push, closed_still, closed_twice, last_contained, last_length, met_still, size_node, size_some, takes, waits}
use Rattle.xd_doc.proofs.store.reached_from.Goals as goal

pub loop-place-init : goal.loop-place-init
loop-place-init c =
    let s = waits _ _ _ c.in_ok-wait_for.ensures.places in
    let none = c.new-waiting.ensures.items in
    record {
      heap = c.in_ok-wait_for.ensures.heap c.new-waiting.ensures.heap_order;
      waits = λ i h. ⊎_elim
          (λ (e : c.args.seq.node ≡ Some i). inl (let b : i < vec_len c.args.nodes.now = rw e at c.requires.place in omega (arith, c.len-above.ensures)))
          (λ o. absurd (none_contained i (rw none at o)))
          (s.cases i h);
      start = met_still _ _ [] _ (λ i w. inr (⊎_elim (λ n. absurd (none_contained i n)) (λ h. h) w)) c.args.seq.node s.link;
      closed = rw c.new-reached.ensures.items tt;
      once = omega (arith, c.new-reached.ensures.len, c.len-above.ensures);
      few = let t = s.total (documents c.args.nodes.now.items) in omega (arith, rw none at t, c.new-reached.ensures.len);
    }

pub loop-place-smaller : goal.loop-place-smaller
loop-place-smaller c =
    let i = c.loop-place.invariant in
    let t = takes _ _ _ c.in-Some.ensures.permutation in
    let last = ⊎_elim (λ lt. absurd (omega (arith, c.if-place-above.false))) (λ l. l) (i.waits c.in-Some.place t.here) in
    let some = last_length c.loop-place.reached.items c.loop-place.above last.1 in
    let w : vec_len c.loop-place.reached ≡ length c.loop-place.reached.items = search rules in
    let v : vec_len c.args.nodes.now ≡ length c.args.nodes.now.items = search rules in
    omega (arith, t.total (documents c.args.nodes.now.items), size_some c.args.nodes.now.items c.in-Some.place c.requires.linked (omega (arith, last.0, i.once)))

pub loop-place-preserved : goal.loop-place-preserved
loop-place-preserved c =
    let i = c.loop-place.invariant in
    let t = takes _ _ _ c.in-Some.ensures.permutation in
    let last = ⊎_elim (λ lt. absurd (omega (arith, c.if-place-above.false))) (λ l. l) (i.waits c.in-Some.place t.here) in
    let is_last : IsLast c.loop-place.reached.items c.in-Some.place = rw last.0 last.1 in
    record {
      heap = (c.in-Some.ensures.heap_order i.heap).0;
      waits = λ j h. i.waits j (t.after j h);
      start = met_still _ _ _ _ (λ j w. ⊎_elim
          (λ h. inl h)
          (λ h. ⊎_elim (λ (e : j ≡ c.in-Some.place). inl (rw e (last_contained c.loop-place.reached.items c.in-Some.place is_last))) (λ o. inr o) (t.cases j h))
          w) c.args.seq.node i.start;
      closed = closed_twice _ _ _ _ c.in-Some.place c.requires.linked is_last i.closed t.cases;
      once = i.once;
      few = omega (arith, t.total (documents c.args.nodes.now.items), i.few);
    }

pub loop-place-smaller-in-Continue-branch-4 : goal.loop-place-smaller-in-Continue-branch-4
loop-place-smaller-in-Continue-branch-4 c =
    let ds = documents c.args.nodes.now.items in
    let t = takes _ _ _ c.in-Some.ensures.permutation in
    let n = c.index-node.result.now in
    let one = waits (heap_items c.pop.new.self) (heap_items c.wait_for-then-place-above.new.waiting) n.content.node (rw c.seq.ensures at c.in_ok-wait_for-2.ensures.places) in
    let two = waits (heap_items c.wait_for-then-place-above.new.waiting) (heap_items c.wait_for-then-place-above-2.new.waiting) n.next.node (rw c.seq-then-place-above.ensures at c.in_ok-wait_for-3.ensures.places) in
    let s = stands_in c.args.nodes.now ds c.in-Some.place _ c.requires.linked refl (omega (arith, c.if-place-above.true, c.loop-place.invariant.once)) c.index-node.ensures in
    omega (arith, t.total ds, one.total ds, two.total ds, size_node ds c.in-Some.place n s)

pub loop-place-preserved-in-Continue-branch-4 : goal.loop-place-preserved-in-Continue-branch-4
loop-place-preserved-in-Continue-branch-4 c =
    let ns = c.args.nodes.now.items in
    let ds = documents ns in
    let p = c.in-Some.place in
    let i = c.loop-place.invariant in
    let v : vec_len c.args.nodes.now ≡ length ns = search rules in
    let t = takes _ _ _ c.in-Some.ensures.permutation in
    let n = c.index-node.result.now in
    let one = waits (heap_items c.pop.new.self) (heap_items c.wait_for-then-place-above.new.waiting) n.content.node (rw c.seq.ensures at c.in_ok-wait_for-2.ensures.places) in
    let two = waits (heap_items c.wait_for-then-place-above.new.waiting) (heap_items c.wait_for-then-place-above-2.new.waiting) n.next.node (rw c.seq-then-place-above.ensures at c.in_ok-wait_for-3.ensures.places) in
    let s = stands_in c.args.nodes.now ds p _ c.requires.linked refl (omega (arith, c.if-place-above.true, i.once)) c.index-node.ensures in
    let inside : p < length ns = omega (arith, c.if-place-above.true, i.once) in
    let W = Contains (heap_items c.loop-place.waiting) in
    let W' = Contains (heap_items c.wait_for-then-place-above-2.new.waiting) in
    let most = le_from_greatest p _ (c.in-Some.ensures.below_top i.heap) in
    let settled = λ (j : ℕ) (h : Contains (heap_items c.loop-place.waiting) j). ⊎_elim (λ (e : j ≡ p). inl e) (λ o. inr (two.before j (one.before j o))) (t.cases j h) in
    let left : (j : ℕ) → Contains (heap_items c.pop.new.self) j → (j < p) ⊎ ((j ≡ p) × IsLast c.push.new.self.items p) = λ j h. ⊎_elim
    (λ (lt : j < p). inl lt)
    (λ (ge : p ≤ j). inr ((let at_most = All-contains (λ y. y ≤ p) (heap_items c.pop.new.self) j most h in let e : j ≡ p = omega arith in e), (c.loop-place.reached.items, c.in_ok-push.ensures.items)))
    (cases_lt j p) in
    record {
      heap = c.in_ok-wait_for-3.ensures.heap (c.in_ok-wait_for-2.ensures.heap (c.in-Some.ensures.heap_order i.heap).0);
      waits = λ j h. ⊎_elim
          (λ (e : n.next.node ≡ Some j). inl (let b : IsBelow p (Some j) = rw e at s.next_older in b))
          (λ w. ⊎_elim (λ (e : n.content.node ≡ Some j). inl (let b : IsBelow p (Some j) = rw e at s.content_older in b)) (left j) (one.cases j w))
          (two.cases j h);
      start = rw c.in_ok-push.ensures.items (met_still _ _ _ _ (λ j w. ⊎_elim
          (λ h. inl (Contains-append_left c.loop-place.reached.items (p ∷ []) j h))
          (λ h. ⊎_elim (λ (e : j ≡ p). inl (rw e (Contains-push c.loop-place.reached.items p))) (λ o. inr o) (settled j h))
          w) c.args.seq.node i.start);
      closed = rw c.in_ok-push.ensures.items (closed_push ns W W' c.loop-place.reached.items p i.closed settled inside
          (λ m e. let same : m ≡ n = e ∙ get_or_default ns p m n inside ∙ sym c.index-node.ensures in
          rw same (met_still _ _ [] [] (λ j w. ⊎_elim (λ h. inl h) (λ h. inr (two.before j h)) w) n.content.node one.link, two.link)));
      once = omega (arith, c.in_ok-push.ensures.len, c.if-place-above.true, i.once);
      few = omega (arith, c.in_ok-push.ensures.len, t.total ds, one.total ds, two.total ds, size_node ds p n s, i.few);
    }

pub returns-clause-closed : goal.returns-clause-closed
returns-clause-closed c =
    let w : heap_len c.loop-place.waiting ≡ length (heap_items c.loop-place.waiting) = search rules in
    closed_still _ _ _ _ c.loop-place.invariant.closed (λ i h. absurd (omega (arith, h.1, c.in_default.ensures.none)))
