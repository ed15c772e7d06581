use Rattle.std.proofs.Common.{length, vec_len, arith}
use Rattle.xd_shown.proofs.NamingSteps.{search_ends, naming_passes, naming_finds, are_named, are_new}
use Rattle.xd_shown.proofs.names.free_names.Goals as goal

pub numbers-preserved-in-Continue-branch-4 : goal.numbers-preserved-in-Continue-branch-4
numbers-preserved-in-Continue-branch-4 c =
    naming_finds c.args.taken.now c.numbers.number c.args.count (vec_len c.numbers.words) (length c.in_ok-left.left.keys) (vec_len c.push.new.self) c.numbers.left.keys c.remove.new.self.keys c.numbers.words.items
    c.push.new.self.items c.in_ok-word.word c.remove.result c.numbers.invariant (omega arith) c.in_ok-word.ensures c.remove.ensures.test c.if-not-remove.true c.remove.ensures.updates.0 c.remove.ensures.len
    c.in_ok-push.ensures.items c.in_ok-push.ensures.len (omega arith)

pub numbers-preserved : goal.numbers-preserved
numbers-preserved c =
    naming_passes c.args.taken.now c.numbers.number c.args.count (vec_len c.numbers.words) (length c.in_ok-left.left.keys) c.numbers.left.keys c.remove.new.self.keys c.numbers.words.items c.in_ok-word.word
    c.remove.result c.numbers.invariant (omega arith) c.in_ok-word.ensures c.remove.ensures.test c.if-not-remove.false c.remove.ensures.updates.0 c.remove.ensures.len

pub returns-clause-named : goal.returns-clause-named
returns-clause-named c = are_named (search_ends c.args.taken.now c.numbers.number c.numbers.left.keys c.numbers.words.items c.numbers.invariant.so_far)

pub returns-clause-new : goal.returns-clause-new
returns-clause-new c = are_new (search_ends c.args.taken.now c.numbers.number c.numbers.left.keys c.numbers.words.items c.numbers.invariant.so_far)
