use Rattle.xd_clauses.specs.declared.behind.Waiting.{Waiting}
use Rattle.xd_clauses.proofs.Leaving.{waiting_more, waits_more}
use Rattle.xd_clauses.proofs.behind.Waiting.add.Goals as goal

pub returns-clause-waiting : goal.returns-clause-waiting
returns-clause-waiting c =
    let new : Waiting = record { starts = c.push.new.self; begins = c.in_ok-begins.begins } in
    waiting_more c.args.patterns.now c.args.self new c.args.start c.requires.start c.in_ok-push.ensures.items c.requires.waiting c.in_ok-begins.ensures.own c.in_ok-begins.ensures.adds

pub returns-clause-adds : goal.returns-clause-adds
returns-clause-adds c =
    let new : Waiting = record { starts = c.push.new.self; begins = c.in_ok-begins.begins } in
    waits_more c.args.patterns.now c.args.self new c.args.start c.requires.start c.in_ok-push.ensures.items c.requires.waiting
