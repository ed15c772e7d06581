use Rattle.std.proofs.Common.{◌≡◌, ℕ, ◌+◌, ◌<◌, [], ◌∷◌, true, false, length, length-append, arith, refl, sym, subst}
use Rattle.std.proofs.lemmas.List.{get_or_at}
use Rattle.std.proofs.lemmas.List.Elements.{All-cons, All-nil}
use Rattle.xd_auto.specs.Automaton.{LeadsBelow, StateMoves, moves_at, no_moves}
use Rattle.xd_auto.specs.Copying.{IsAround, LabelBelow}
use Rattle.xd_auto.specs.declared.auto.TextMove.{TextMove}
use Rattle.xd_auto.proofs.Closed.{no_moves-below}
use Rattle.xd_auto.proofs.AddsMovesLemmas.{moves_behind}
use Rattle.xd_auto.proofs.FindsMoreLemmas.{state_at}
use Rattle.xd_auto.proofs.IsWrappedLemmas.{wrap_law}
use Rattle.xd_auto.proofs.auto.Auto.wrap.Goals as goal

pub returns-clause-ok : goal.returns-clause-ok
returns-clause-ok c =
    let at : moves_at c.extend.new.self (state_at c.len-number.result) ≡ c.in_ok-around.field-0 =
    rw (c.in_ok-extend.ensures.ok, c.in_ok-push-2.ensures.items, c.in_ok-push.ensures.items, c.new-made.ensures.items, c.len-number.ensures.value)
    (get_or_at c.args.self.now c.in_ok-around.field-0 (c.new.result ∷ []) (no_moves false) (length c.args.self.now) refl) in
    let end : moves_at c.extend.new.self (state_at (c.len-number.result + 1)) ≡ no_moves true =
    rw (c.in_ok-extend.ensures.ok, c.in_ok-push-2.ensures.items, c.in_ok-push.ensures.items, c.new-made.ensures.items, c.len-number.ensures.value, c.new.ensures)
    (moves_behind c.args.self.now (c.in_ok-around.field-0 ∷ no_moves true ∷ []) 1 (no_moves false) (omega arith)) in
    wrap_law c.args.self.now c.extend.new.self c.in_ok-extend.ensures.keeps c.args.label.now c.args.content (state_at c.len-number.result) (state_at (c.len-number.result + 1)) c.requires
    (subst (λ (m : StateMoves). IsAround c.args.label.now c.args.content (state_at (c.len-number.result + 1)) m) (sym at) c.in_ok-around.ensures) end

pub returns-clause-count : goal.returns-clause-count
returns-clause-count c =
    rw (c.in_ok-extend.ensures.ok, c.in_ok-push-2.ensures.items, c.in_ok-push.ensures.items, c.new-made.ensures.items, length-append c.args.self.now (c.in_ok-around.field-0 ∷ c.new.result ∷ [])) refl

pub returns-clause-belongs : goal.returns-clause-belongs
returns-clause-belongs c =
    rw (c.in_ok-extend.ensures.ok, c.in_ok-push-2.ensures.items, c.in_ok-push.ensures.items, c.new-made.ensures.items, c.len-number.ensures.value, length-append c.args.self.now (c.in_ok-around.field-0 ∷ c.new.result ∷ [])) (omega arith)

pub extend-requires : goal.extend-requires
extend-requires c =
    let n : ℕ = length c.args.self.now + 2 in
    let a = c.in_ok-around.ensures in
    rw (c.in_ok-push-2.ensures.items, c.in_ok-push.ensures.items, c.new-made.ensures.items)
    (All-cons (LeadsBelow n) c.in_ok-around.field-0 (c.new.result ∷ [])
    (subst (LeadsBelow n) (sym a.is) (record { labels = All-cons (LabelBelow n) _ [] (omega (arith, c.requires), omega (arith, c.len-number.ensures.value)) (All-nil (LabelBelow n)); texts = All-nil (λ (r : TextMove). r.rest.number < n) }))
    (All-cons (LeadsBelow n) c.new.result [] (subst (LeadsBelow n) (sym c.new.ensures) (no_moves-below n true)) (All-nil (LeadsBelow n))))
