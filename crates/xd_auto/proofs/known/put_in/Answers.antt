use Rattle.std.proofs.Common.{◌≡◌, ◌+◌, ◌*◌, ◌/◌, ◌%◌, arith}
use Rattle.xd_auto.proofs.KeepsAnswerLemmas.{two_bits, row_from_same}
use Rattle.xd_auto.proofs.known.put_in.Goals as goal

pub returns-clause-ok : goal.returns-clause-ok
returns-clause-ok c =
    let place : 64 * (c.args.node / 32) + 2 * (c.args.node % 32) ≡ 2 * c.args.node = omega arith in
    let next : 64 * (c.args.node / 32) + (2 * (c.args.node % 32) + 1) ≡ 2 * c.args.node + 1 = omega arith in
    row_from_same c.args.node c.args.answer c.args.row.now.items c.reach.new.row.items c.set_bit-2.new.words.items c.in_ok-reach.ensures.same
    (two_bits c.args.node c.args.answer c.reach.new.row.items c.set_bit.new.words.items c.set_bit-2.new.words.items
    (rw place at c.set_bit.ensures.set) (rw next at c.set_bit-2.ensures.set))
