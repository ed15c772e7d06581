use Rattle.std.proofs.Common.{false, ap, ◌∙◌, subst}
use Rattle.xd_doc.specs.Classes.{is_named}
use Rattle.xd_doc.specs.ClassForms.{IsPart}
use Rattle.xd_same_types.proofs.ClassLaws.{has_either, no_exception}
use Rattle.xd_same_types.proofs.classes.united.Goals as goal

pub returns-in-Some-3 : goal.returns-in-Some-3
returns-in-Some-3 c = λ l.
    let none = c.in_ok-all.ensures.labels l ∙ ap (λ ns. is_named ns l) c.new.ensures.items in
    let all = no_exception c.in_ok-all.all l c.in_ok-all.ensures.except none in
    let b = subst (IsPart false c.in_ok-all.all c.args.one.now) c.in-Some.is c.in_ok-others.ensures.part l in
    let d = subst (IsPart false c.in-Some.others c.args.other.now) c.in-Some-2.is c.in_ok-neither.ensures.part l in
    let e = subst (IsPart false c.in_ok-all.all c.in-Some-2.neither) c.in-Some-3.is c.in_ok-both.ensures.part l in
    has_either _ _ _ _ _ _ all b d e
