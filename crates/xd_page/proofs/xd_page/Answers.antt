use Rattle.std.proofs.Common.{rules, inr}
use Rattle.xd_page.proofs.xd_page.Goals as goal
use Rattle.xd_page.proofs.Sent.{cut_off}

pub returns-then-written-len-clause-outcome : goal.returns-then-written-len-clause-outcome
returns-then-written-len-clause-outcome c w =
    let reply = c.in-Ok-answer.reply in
    inr (
      record { status = reply.status; text = reply.text.items },
      search rules,
      cut_off reply.status c.put.result _ reply.text.items c.deref-2.result.now c.put.new.room c.deref-2.ensures.value c.put.ensures.count c.put.ensures.room c.put.ensures.front (search rules),
    )
