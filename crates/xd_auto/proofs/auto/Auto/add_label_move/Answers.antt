use Rattle.std.proofs.Common.{rules}
use Rattle.xd_auto.proofs.Closed.{IsClosed-label}
use Rattle.xd_auto.proofs.auto.Auto.add_label_move.Goals as goal

pub invariant_of-self : goal.invariant_of-self
invariant_of-self c = rw c.in_err-push_label.ensures.err c.self.invariant

pub invariant_of-self-2 : goal.invariant_of-self-2
invariant_of-self-2 c =
    rw c.in_ok-push_label.ensures.ok
    (IsClosed-label c.self.inside.states.items (record { number = c.args.from.number }) (record { class = c.args.class; content = c.args.content; rest = c.args.rest }) c.self.invariant
    (search rules) (search rules) (search rules))
