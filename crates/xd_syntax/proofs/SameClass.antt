-- Classes with the same labels are the same.
use Rattle.std.proofs.Common.{◌≡◌, ℕ, List, ap, ◌∙◌}
use Rattle.xd_doc.specs.Classes.{LabelClass}
use Rattle.xd_doc.specs.ClassForms.{names_label, IsClass}
use Rattle.xd_doc.proofs.SortedNames.{same_words}

pub same_class_of : (c e : LabelClass) → IsClass c → IsClass e → ((l : List ℕ) → names_label c.names l ≡ names_label e.names l) → c.except ≡ e.except → c ≡ e
same_class_of c e p q h x =
    ap (λ ns. let k : LabelClass = record { names = ns; except = c.except } in k) (same_words c.names e.names p.sorted q.sorted h)
    ∙ ap (λ b. let k : LabelClass = record { names = e.names; except = b } in k) x
