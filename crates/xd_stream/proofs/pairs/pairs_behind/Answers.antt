use Rattle.std.proofs.Common.{◌≡◌, Bool, get_or, sym, ap, ◌∙◌}
use Rattle.std.specs.Prelude.{◌==◌}
use Rattle.std.specs.List.{list_any}
use Rattle.xd_auto.specs.declared.auto.State.{State}
use Rattle.xd_stream.specs.Pairs.{ends_in}
use Rattle.xd_stream.specs.declared.pairs.Pair.{Pair}
use Rattle.xd_stream.specs.declared.pairs.Waiting.{Waiting}
use Rattle.xd_stream.proofs.PairOrderLemmas.{any_found}
use Rattle.xd_stream.proofs.WaitingPairLemmas.{added_marked, behind_one, not_marked}
use Rattle.xd_stream.proofs.AllPassLemmas.{any_pushed}
use Rattle.xd_stream.proofs.pairs.pairs_behind.Goals as goal
use Rattle.xd_stream.proofs.pairs.pairs_behind.Goals.{then-is_ok+in_ok-push, else-is_ok}

pub loop-step-preserved : goal.loop-step-preserved
loop-step-preserved c =
    let a = c.args.auto.now in
    let none : State = record { number = 0 } in
    let past : Waiting = record { first = none; content = none; rest = none } in
    let w : Waiting = get_or c.args.waiting.now c.loop-step.step-index past in
    let behind : Pair = record { first = w.first; present = w.rest } in
    let ends : Bool = list_any (ends_in a w.content) c.args.now.now in
    let mid = c.loop-step.into.items in
    let new = c.if-is_ok.into.items in
    let found : c.is_ok.result ≡ ends =
    c.is_ok.ensures.value
    ∙ any_found c.deref.result.now c.number.result c.binary_search.result c.binary_search.ensures.position (rw c.deref.ensures.value c.in_ok-ended_firsts.ensures.order)
    ∙ ap (list_any (λ m. m == c.number.result)) c.deref.ensures.value
    ∙ ap (λ k. list_any (λ m. m == k) c.ended_firsts.new.into.items) c.number.ensures
    ∙ c.in_ok-ended_firsts.ensures.ended w.content in
    λ f. behind_one a c.args.now.now c.args.waiting.now f c.args.into.now.items mid new c.loop-step.step-index past c.loop-step-test.true (c.loop-step.invariant f)
    (elim c.if-is_ok.branch [
      | then-is_ok+in_ok-push v ↦ added_marked f mid new behind ends (sym found ∙ v.if-is_ok.true) (ap (λ xs. list_any f xs.items) v.into-is ∙ ap (list_any f) v.in_ok-push.ensures.items ∙ any_pushed f mid behind)
      | else-is_ok v ↦ not_marked f mid new behind ends (sym found ∙ v.if-is_ok.false) (ap (λ xs. xs.items) v.into-is)
    ])
