use Rattle.std.proofs.Common.{sym}
use Rattle.xd_doc.proofs.words.Words.meet.Goals as goal

pub returns-in_default-clause-part : goal.returns-in_default-clause-part
returns-in_default-clause-part c x =
    let none = rw c.in_default.is at c.in_ok-texts.ensures in
    rw (sym c.self.view_is, sym c.other.view_is) (none x)

pub returns-clause-part : goal.returns-clause-part
returns-clause-part c x =
    let some = rw c.in-Some.is at c.in_ok-texts.ensures in
    rw (sym c.self.view_is, sym c.other.view_is) (some.has x)
