use Rattle.std.proofs.Common.{◌++◌, ◌∷◌, [], ap, refl, ◌∙◌}
use Rattle.xd_auto.specs.declared.auto.LabelMove.{LabelMove}
use Rattle.xd_boole.specs.declared.refusals.Narrowed.{Narrowed}
use Rattle.xd_boole.proofs.RefusalLemmas.{narrows_apart, narrows_part, narrows_whole}
use Rattle.xd_boole.proofs.refusals.narrow_more.Goals as goal

pub returns-then-are_apart : goal.returns-then-are_apart
returns-then-are_apart c = narrows_apart c.args.universal.now c.args.class.now c.args.step.now c.args.narrowed (c.are_apart.ensures c.if-are_apart.true)

pub returns-then-has_all_of : goal.returns-then-has_all_of
returns-then-has_all_of c =
    let made : Narrowed = record { choices = c.in_ok-choices.choices; moves = c.args.narrowed.moves } in
    narrows_whole c.args.universal.now c.args.class.now c.args.step.now c.args.narrowed made refl (c.has_all_of.ensures c.if-has_all_of.true) (rw c.side_of.ensures at c.in_ok-choices.ensures)

pub returns : goal.returns
returns c =
    let made : Narrowed = record { choices = c.args.narrowed.choices; moves = c.push.new.self } in
    narrows_part c.args.universal.now c.args.class.now c.args.step.now c.args.narrowed made refl
    (c.in_ok-push.ensures.items ∙ ap (λ (x : LabelMove). c.args.narrowed.moves.items ++ x ∷ []) c.in_ok-share.ensures)
