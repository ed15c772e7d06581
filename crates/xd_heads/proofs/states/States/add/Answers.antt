use Rattle.std.proofs.Common.{subst}
use Rattle.xd_heads.specs.States.{EachOnce}
use Rattle.xd_heads.proofs.StateLemmas.{number_added, once_added}
use Rattle.xd_heads.proofs.states.States.add.Goals as goal

pub invariant_of-self-2 : goal.invariant_of-self-2
invariant_of-self-2 c =
    once_added c.args.self.now c.insert_full.new.self.keys c.args.number (subst EachOnce c.self.view_is c.self.invariant)
    (number_added c.self.inside.numbers.keys c.args.self.now c.insert_full.new.self.keys c.args.number c.self.view_is c.in_ok-insert_full.ensures.keys)

pub returns-clause-ok : goal.returns-clause-ok
returns-clause-ok c = number_added c.self.inside.numbers.keys c.args.self.now c.insert_full.new.self.keys c.args.number c.self.view_is c.in_ok-insert_full.ensures.keys
