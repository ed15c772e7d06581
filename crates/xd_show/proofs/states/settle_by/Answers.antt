use Rattle.xd_show.proofs.ContentLaws.{all_named_written}
use Rattle.xd_show.proofs.states.settle_by.Goals as goal

pub returns-clause-plain : goal.returns-clause-plain
returns-clause-plain c = λ all.
    all_named_written c.args.auto.now c.in_ok-written.written.items c.args.plan.named.items c.len-count.ensures.closed c.in_ok-written.ensures.written all
