use Rattle.std.proofs.Common.{true, None, length, length-append, arith}
use Rattle.xd_auto.specs.Copying.{AreStateCopies, Reached, copies_in}
use Rattle.xd_auto.proofs.AddsMovesLemmas.{copies_below, copy_accepts, copies_have_originals, copies_reached, made_length, start_copy}
use Rattle.xd_auto.proofs.FewCopiesLemmas.{few_found}
use Rattle.xd_auto.proofs.FindsMoreLemmas.{state_at}
use Rattle.xd_auto.proofs.auto.Auto.absorb.Goals as goal

pub extend-requires : goal.extend-requires
extend-requires c =
    let reached : Reached c.args.other.now true c.args.state (length c.args.self.now) c.in_ok-reach.reach.order.items (copies_in c.in_ok-reach.reach.copies) =
    rw c.len-number.ensures.value at c.in_ok-reach.ensures in
    let so : AreStateCopies c.args.other.now (copies_in c.in_ok-reach.reach.copies) (copies_in c.in_ok-reach.reach.copies) None c.in_ok-reach.reach.order.items c.in_ok-made.made.items =
    rw c.deref.ensures.value at c.in_ok-made.ensures in
    copies_below c.args.other.now c.args.self.now c.args.state c.in_ok-reach.reach.order.items (copies_in c.in_ok-reach.reach.copies) c.in_ok-made.made.items reached so

pub returns-clause-ok : goal.returns-clause-ok
returns-clause-ok c = λ d.
    let reached : Reached c.args.other.now true c.args.state (length c.args.self.now) c.in_ok-reach.reach.order.items (copies_in c.in_ok-reach.reach.copies) =
    rw c.len-number.ensures.value at c.in_ok-reach.ensures in
    let so : AreStateCopies c.args.other.now (copies_in c.in_ok-reach.reach.copies) (copies_in c.in_ok-reach.reach.copies) None c.in_ok-reach.reach.order.items c.in_ok-made.made.items =
    rw c.deref.ensures.value at c.in_ok-made.ensures in
    rw (c.in_ok-extend.ensures.ok, c.len-number.ensures.value)
    (copy_accepts c.args.other.now c.args.self.now c.args.state c.in_ok-reach.reach.order.items (copies_in c.in_ok-reach.reach.copies) c.in_ok-made.made.items reached so d c.args.state (state_at (length c.args.self.now))
    (start_copy c.args.other.now true c.args.state (length c.args.self.now) c.in_ok-reach.reach.order.items (copies_in c.in_ok-reach.reach.copies) reached))

pub returns-clause-belongs : goal.returns-clause-belongs
returns-clause-belongs c =
    let reached : Reached c.args.other.now true c.args.state (length c.args.self.now) c.in_ok-reach.reach.order.items (copies_in c.in_ok-reach.reach.copies) =
    rw c.len-number.ensures.value at c.in_ok-reach.ensures in
    let so : AreStateCopies c.args.other.now (copies_in c.in_ok-reach.reach.copies) (copies_in c.in_ok-reach.reach.copies) None c.in_ok-reach.reach.order.items c.in_ok-made.made.items =
    rw c.deref.ensures.value at c.in_ok-made.ensures in
    rw (c.in_ok-extend.ensures.ok, c.len-number.ensures.value)
    (omega (arith, reached.some, length-append c.args.self.now c.in_ok-made.made.items, made_length c.args.other.now c.args.self.now c.args.state c.in_ok-reach.reach.order.items (copies_in c.in_ok-reach.reach.copies) c.in_ok-made.made.items reached so))

pub returns-clause-copies : goal.returns-clause-copies
returns-clause-copies c =
    let reached : Reached c.args.other.now true c.args.state (length c.args.self.now) c.in_ok-reach.reach.order.items (copies_in c.in_ok-reach.reach.copies) =
    rw c.len-number.ensures.value at c.in_ok-reach.ensures in
    let so : AreStateCopies c.args.other.now (copies_in c.in_ok-reach.reach.copies) (copies_in c.in_ok-reach.reach.copies) None c.in_ok-reach.reach.order.items c.in_ok-made.made.items =
    rw c.deref.ensures.value at c.in_ok-made.ensures in
    rw (c.in_ok-extend.ensures.ok, c.len-number.ensures.value)
    (copies_reached c.args.other.now c.args.self.now c.args.state c.in_ok-reach.reach.order.items (copies_in c.in_ok-reach.reach.copies) c.in_ok-made.made.items reached so)

pub returns-clause-originals : goal.returns-clause-originals
returns-clause-originals c =
    let reached : Reached c.args.other.now true c.args.state (length c.args.self.now) c.in_ok-reach.reach.order.items (copies_in c.in_ok-reach.reach.copies) =
    rw c.len-number.ensures.value at c.in_ok-reach.ensures in
    let so : AreStateCopies c.args.other.now (copies_in c.in_ok-reach.reach.copies) (copies_in c.in_ok-reach.reach.copies) None c.in_ok-reach.reach.order.items c.in_ok-made.made.items =
    rw c.deref.ensures.value at c.in_ok-made.ensures in
    rw (c.in_ok-extend.ensures.ok, c.len-number.ensures.value)
    (copies_have_originals c.args.other.now c.args.self.now c.args.state c.in_ok-reach.reach.order.items (copies_in c.in_ok-reach.reach.copies) c.in_ok-made.made.items reached so)

pub returns-clause-few : goal.returns-clause-few
returns-clause-few c =
    let reached : Reached c.args.other.now true c.args.state (length c.args.self.now) c.in_ok-reach.reach.order.items (copies_in c.in_ok-reach.reach.copies) =
    rw c.len-number.ensures.value at c.in_ok-reach.ensures in
    let so : AreStateCopies c.args.other.now (copies_in c.in_ok-reach.reach.copies) (copies_in c.in_ok-reach.reach.copies) None c.in_ok-reach.reach.order.items c.in_ok-made.made.items =
    rw c.deref.ensures.value at c.in_ok-made.ensures in
    let few = few_found c.args.other.now true c.args.state (length c.args.self.now) c.in_ok-reach.reach.order.items (copies_in c.in_ok-reach.reach.copies) reached in
    rw c.in_ok-extend.ensures.ok
    (omega (arith, few, length-append c.args.self.now c.in_ok-made.made.items, made_length c.args.other.now c.args.self.now c.args.state c.in_ok-reach.reach.order.items (copies_in c.in_ok-reach.reach.copies) c.in_ok-made.made.items reached so))
