use Rattle.std.proofs.Common.{◌≡◌, Bool, true, false, ◌&&◌, Some, refl, sym, subst}
use Rattle.xd_doc.specs.Classes.{NameClass, class_has}
use Rattle.xd_doc.specs.ClassForms.{IsPart}
use Rattle.xd_boole.proofs.classes.common_labels.Goals as goal

kept : (b c : Bool) → (b ≡ true → c ≡ true) → b ≡ (b && c)
kept true c h = sym (h refl)
kept false c h = refl

pub returns-then-has_all_of : goal.returns-then-has_all_of
returns-then-has_all_of c =
    subst (λ (k : NameClass). IsPart true c.args.one.now c.args.two.now (Some k)) (sym c.in_ok-all.ensures.same)
    (λ x. kept (class_has c.args.one.now x) (class_has c.args.two.now x) (c.if-has_all_of.ensures refl x))
