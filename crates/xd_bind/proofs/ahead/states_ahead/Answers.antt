use Rattle.std.proofs.Common.{◌≡◌, ◌<◌, ◌∙◌, ap, inl, inr, refl, false, vec_len, arith, rules, length, replicate}
use Rattle.std.proofs.lemmas.List.{length-replicate}
use Rattle.std.proofs.lemmas.Option.{slice_get_read, slice_get_within}
use Rattle.xd_auto.specs.Automaton.{moves_at}
use Rattle.xd_empty.specs.Parts.{is_marked}
use Rattle.xd_auto.specs.Leading.{TextFilled, text_ends}
use Rattle.xd_bind.specs.Search.{AreFollowed, LeadsAhead}
use Rattle.xd_bind.proofs.IsSearchLemmas.{Grows-trans, Grows-weaker, all_followed_more, listed_there, none_marked, search_begun, search_more, searched}
use Rattle.xd_bind.proofs.ahead.states_ahead.Goals as goal

pub visit-requires : goal.visit-requires
visit-requires g c =
    let zeros = c.in_ok-vec.ensures.items_if_clones_equal (λ y e. e) in
    let long : length c.in_ok-vec.field-0.items ≡ c.len.result = ap length zeros ∙ length-replicate c.len.result false in
    omega (arith, long, c.len.ensures.value, c.requires.start)

pub loop-done-init : goal.loop-done-init
loop-done-init g c =
    let b = g.H.Holds.owned c.args.owner.now c.args.variable in
    let none = c.in_ok-vec.field-0.items in
    let zeros : none ≡ replicate c.len.result false = c.in_ok-vec.ensures.items_if_clones_equal (λ y e. e) in
    let long : length none ≡ c.len.result = ap length zeros ∙ length-replicate c.len.result false in
    record {
      search = search_begun c.args.auto.now b c.args.start (is_marked c.args.free.now) c.len.ensures.closed none _ _ c.requires.start (long ∙ c.len.ensures.value)
          (λ s. ap (λ ms. is_marked ms s) zeros ∙ none_marked c.len.result s.number)
          (rw c.new.ensures.items at c.in_ok-visit.ensures.grows) c.in_ok-visit.ensures.marked;
      within = omega arith;
    }

pub visit_moves-requires-clause-state : goal.visit_moves-requires-clause-state
visit_moves-requires-clause-state g c =
    let v : vec_len c.loop-done.search.order ≡ length c.loop-done.search.order.items = search rules in
    listed_there _ _ _ _ _ _ _ c.loop-done.invariant.search c.loop-done.done c.index-state.result.now (omega arith) c.index-state.ensures

pub loop-done-preserved : goal.loop-done-preserved
loop-done-preserved g c =
    let a = c.args.auto.now in
    let b = g.H.Holds.owned c.args.owner.now c.args.variable in
    let s = c.index-state.result.now in
    let free = is_marked c.args.free.now in
    let moves = moves_at a s in
    let v : vec_len c.loop-done.search.order ≡ length c.loop-done.search.order.items = search rules in
    let within : c.loop-done.done < length c.loop-done.search.order.items = omega arith in
    let at = slice_get_read c.loop-done.search.order.items (length c.loop-done.search.order.items) c.loop-done.done s refl within c.index-state.ensures in
    let one = c.in_ok-visit_moves.ensures in
    let two = c.in_ok-visit_moves-2.ensures in
    let grows = Grows-trans (LeadsAhead b free s moves) _ _ _ _ _ _ (Grows-weaker _ (LeadsAhead b free s moves) _ _ _ _ (λ t l. inl l) one.grows) (Grows-weaker _ (LeadsAhead b free s moves) _ _ _ _ (λ t l. inr l) two.grows) in
    let f : AreFollowed b free s moves c.visit_moves-in-loop-done.new.self.marks.items =
    record { texts = all_followed_more TextFilled text_ends (b.text s) free moves.texts _ _ _ _ _ two.grows _ one.marked; elements = two.marked } in
    let longer = slice_get_within _ c.loop-done.done s (grows.front c.loop-done.done s at) in
    record {
      search = search_more a b c.args.start free c.len.ensures.closed _ _ c.loop-done.done s c.visit_moves-in-loop-done.new.self.order.items c.visit_moves-in-loop-done.new.self.marks.items c.loop-done.invariant.search at grows f;
      within = omega arith;
    }

pub returns : goal.returns
returns g c =
    searched c.args.auto.now (g.H.Holds.owned c.args.owner.now c.args.variable) c.args.start (is_marked c.args.free.now) c.len.ensures.closed c.loop-done.search.order.items c.loop-done.search.marks.items c.loop-done.done
    (omega arith) c.loop-done.invariant.search

pub loop-done-smaller : goal.loop-done-smaller
loop-done-smaller g c =
    let v : vec_len c.loop-done.search.order ≡ length c.loop-done.search.order.items = search rules in
    omega (arith, c.in_ok-visit_moves.ensures.grows.counted, c.in_ok-visit_moves-2.ensures.grows.counted, c.loop-done-test.true)
