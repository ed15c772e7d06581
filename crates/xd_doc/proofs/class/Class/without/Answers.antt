use Rattle.std.proofs.Common.{sym}
use Rattle.xd_doc.specs.Classes.{is_named}
use Rattle.xd_doc.proofs.ClassLemmas.{outside}
use Rattle.xd_doc.proofs.class.Class.without.Goals as goal

pub returns-in_default-clause-part : goal.returns-in_default-clause-part
returns-in_default-clause-part c x =
    let none = rw c.in_default.is at c.in_ok-labels.ensures in
    let e = c.other.inside.labels in
    rw (sym c.self.view_is, sym c.other.view_is, outside e.except (is_named e.names.value.items x)) (none x)

pub returns-clause-part : goal.returns-clause-part
returns-clause-part c x =
    let some = rw c.in-Some.is at c.in_ok-labels.ensures in
    let e = c.other.inside.labels in
    rw (sym c.self.view_is, sym c.other.view_is, outside e.except (is_named e.names.value.items x)) (some.has x)
