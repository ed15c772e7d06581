use Rattle.std.proofs.Common.{false, Some, length, length-append, arith}
use Rattle.xd_auto.specs.Copying.{AreStateCopies, Reached, copies_in, no_copies}
use Rattle.xd_auto.proofs.IsJoinedLemmas.{concat_law, joined_below, joined_length}
use Rattle.xd_auto.proofs.auto.Auto.concat.Goals as goal

pub extend-requires : goal.extend-requires
extend-requires c =
    let reached : Reached c.args.self.now false c.args.one (length c.args.self.now) c.in_ok-reach.reach.order.items (copies_in c.in_ok-reach.reach.copies) =
    rw c.len-number.ensures.value at c.in_ok-reach.ensures in
    let so : AreStateCopies c.args.self.now no_copies (copies_in c.in_ok-reach.reach.copies) (Some c.args.two) c.in_ok-reach.reach.order.items c.in_ok-made.made.items =
    rw (c.deref.ensures.value, c.without_copies-contents.ensures) at c.in_ok-made.ensures in
    joined_below c.args.self.now c.args.one c.args.two c.in_ok-reach.reach.order.items (copies_in c.in_ok-reach.reach.copies) c.in_ok-made.made.items c.len-number.ensures.closed c.requires.two reached so

pub returns-clause-ok : goal.returns-clause-ok
returns-clause-ok c = λ d.
    let reached : Reached c.args.self.now false c.args.one (length c.args.self.now) c.in_ok-reach.reach.order.items (copies_in c.in_ok-reach.reach.copies) =
    rw c.len-number.ensures.value at c.in_ok-reach.ensures in
    let so : AreStateCopies c.args.self.now no_copies (copies_in c.in_ok-reach.reach.copies) (Some c.args.two) c.in_ok-reach.reach.order.items c.in_ok-made.made.items =
    rw (c.deref.ensures.value, c.without_copies-contents.ensures) at c.in_ok-made.ensures in
    rw (c.in_ok-extend.ensures.ok, c.len-number.ensures.value)
    (concat_law c.args.self.now c.args.one c.args.two c.in_ok-reach.reach.order.items (copies_in c.in_ok-reach.reach.copies) c.in_ok-made.made.items c.len-number.ensures.closed c.requires.two reached so d)

pub returns-clause-belongs : goal.returns-clause-belongs
returns-clause-belongs c =
    let reached : Reached c.args.self.now false c.args.one (length c.args.self.now) c.in_ok-reach.reach.order.items (copies_in c.in_ok-reach.reach.copies) =
    rw c.len-number.ensures.value at c.in_ok-reach.ensures in
    let so : AreStateCopies c.args.self.now no_copies (copies_in c.in_ok-reach.reach.copies) (Some c.args.two) c.in_ok-reach.reach.order.items c.in_ok-made.made.items =
    rw (c.deref.ensures.value, c.without_copies-contents.ensures) at c.in_ok-made.ensures in
    rw (c.in_ok-extend.ensures.ok, c.len-number.ensures.value)
    (omega (arith, reached.some, length-append c.args.self.now c.in_ok-made.made.items, joined_length c.args.self.now c.args.one c.args.two c.in_ok-reach.reach.order.items (copies_in c.in_ok-reach.reach.copies) c.in_ok-made.made.items c.len-number.ensures.closed c.requires.two reached so))
