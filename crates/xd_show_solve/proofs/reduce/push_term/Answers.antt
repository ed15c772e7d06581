use Rattle.std.proofs.Common.{refl}
use Rattle.xd_same_types.proofs.Tables.{keeps_refl}
use Rattle.xd_show_solve.proofs.SumSteps.{term_pushed}
use Rattle.xd_show_solve.proofs.reduce.push_term.Goals as goal

pub returns-clause-adds : goal.returns-clause-adds
returns-clause-adds c = λ types h b.
    let made = c.args.made.now in
    term_pushed types types (keeps_refl types) made (record { terms = c.push.new.self; constant = made.constant }) c.args.term h b c.in_ok-push.ensures.items refl
