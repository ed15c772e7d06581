use Rattle.std.proofs.Common.{rules}
use Rattle.xd_auto.proofs.Closed.{IsClosed-text}
use Rattle.xd_auto.proofs.auto.Auto.add_text_move.Goals as goal

pub invariant_of-self : goal.invariant_of-self
invariant_of-self c = rw c.in_err-push_text.ensures.err c.self.invariant

pub invariant_of-self-2 : goal.invariant_of-self-2
invariant_of-self-2 c =
    rw c.in_ok-push_text.ensures.ok (IsClosed-text c.self.inside.states.items (record { number = c.args.from.number }) (record { words = c.args.words; rest = c.args.rest }) c.self.invariant (search rules) (search rules))
