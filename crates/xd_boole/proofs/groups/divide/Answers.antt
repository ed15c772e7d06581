use Rattle.std.proofs.Common.{◌≡◌, None, Some, refl, sym, ◌∙◌}
use Rattle.std.proofs.lemmas.Result.{on_ok_weaker}
use Rattle.xd_doc.specs.Classes.{class_has}
use Rattle.xd_boole.proofs.AnyAcceptsLemmas.{has_fails}
use Rattle.xd_boole.proofs.DividesLemmas.{divides, divides_none, divides_there}
use Rattle.xd_boole.proofs.groups.divide.Goals as goal

pub returns-then-has_state : goal.returns-then-has_state
returns-then-has_state c =
    divides_there class_has c.args.step.now.words c.args.step.now.rest c.args.group c.args.groups.now.items c.push.new.self.items c.in_ok-push.ensures.items
    (λ p. has_fails p c.args.step.now.rest c.args.group.sides.items (sym (rw c.deref.ensures.value at c.has_state.ensures) ∙ c.if-has_state.true))

pub returns-in_default : goal.returns-in_default
returns-in_default c =
    divides_none class_has c.args.step.now.words c.args.step.now.rest c.args.group c.args.groups.now.items c.push-in_default.new.self.items c.in_ok-push-2.ensures.items (rw c.in_default.is at c.in_ok-inside.ensures.part)

pub returns-in_default-2 : goal.returns-in_default-2
returns-in_default-2 c =
    on_ok_weaker c.add_inside.result
    (λ inside. divides class_has c.args.step.now.words c.args.step.now.rest c.args.group c.in-Some.inside c.args.groups.now.items c.add_inside.new.groups.items c.add_inside.new.groups.items
    (rw c.in-Some.is at c.in_ok-inside.ensures.part) inside
    (record { part = None; is = rw c.in_default-2.is at c.in_ok-outside.ensures.part; items = refl }))
    c.add_inside.ensures

pub returns : goal.returns
returns c =
    let same : c.in_ok-sides.sides.items ≡ c.args.group.sides.items = c.in_ok-sides.ensures.items_if_clones_equal (λ x y e. e) ∙ c.deref-2.ensures.value in
    divides class_has c.args.step.now.words c.args.step.now.rest c.args.group c.in-Some.inside c.args.groups.now.items c.add_inside-2.new.groups.items c.push-2.new.self.items
    (rw c.in-Some.is at c.in_ok-inside.ensures.part) (rw same at c.in_ok-add_inside.ensures)
    (record { part = Some c.in-Some-2.outside; is = rw c.in-Some-2.is at c.in_ok-outside.ensures.part; items = c.in_ok-push-3.ensures.items })
