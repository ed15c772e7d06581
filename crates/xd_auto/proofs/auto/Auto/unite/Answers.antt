use Rattle.std.proofs.Common.{◌≡◌, ◌+◌, [], ◌∷◌, false, length, length-append, arith, refl, ap, ◌∙◌}
use Rattle.std.proofs.lemmas.List.{get_or_at}
use Rattle.std.proofs.lemmas.List.Elements.{All-cons, All-nil}
use Rattle.xd_auto.specs.Automaton.{LeadsBelow, moves_at, no_moves}
use Rattle.xd_auto.specs.Copying.{accepts_by}
use Rattle.xd_auto.proofs.Closed.{LeadsBelow-more}
use Rattle.xd_auto.proofs.AddsMovesLemmas.{accepts_by_moves}
use Rattle.xd_auto.proofs.FindsMoreLemmas.{state_at}
use Rattle.xd_auto.proofs.auto.Auto.unite.Goals as goal

pub extend-requires : goal.extend-requires
extend-requires c =
    rw (c.in_ok-push.ensures.items, c.new-made.ensures.items)
    (All-cons (LeadsBelow (length c.args.self.now + 1)) c.in_ok-moves_of_all.field-0 []
    (LeadsBelow-more (length c.args.self.now) (length c.args.self.now + 1) c.in_ok-moves_of_all.field-0 (omega arith) (c.in_ok-moves_of_all.ensures.below c.len-number.ensures.closed))
    (All-nil (LeadsBelow (length c.args.self.now + 1))))

pub returns-clause-ok : goal.returns-clause-ok
returns-clause-ok c d =
    let at : moves_at c.extend.new.self (state_at c.len-number.result) ≡ c.in_ok-moves_of_all.field-0 =
    rw (c.in_ok-extend.ensures.ok, c.in_ok-push.ensures.items, c.new-made.ensures.items, c.len-number.ensures.value)
    (get_or_at c.args.self.now c.in_ok-moves_of_all.field-0 [] (no_moves false) (length c.args.self.now) refl) in
    accepts_by_moves c.extend.new.self (state_at c.len-number.result) d ∙ ap (λ m. accepts_by c.extend.new.self m d) at
    ∙ c.in_ok-moves_of_all.ensures.accepted c.extend.new.self c.in_ok-extend.ensures.extends c.in_ok-extend.ensures.keeps d

pub returns-clause-count : goal.returns-clause-count
returns-clause-count c =
    rw (c.in_ok-extend.ensures.ok, c.in_ok-push.ensures.items, c.new-made.ensures.items, length-append c.args.self.now (c.in_ok-moves_of_all.field-0 ∷ [])) refl

pub returns-clause-belongs : goal.returns-clause-belongs
returns-clause-belongs c =
    rw (c.in_ok-extend.ensures.ok, c.in_ok-push.ensures.items, c.new-made.ensures.items, c.len-number.ensures.value, length-append c.args.self.now (c.in_ok-moves_of_all.field-0 ∷ [])) (omega arith)
