use Rattle.std.proofs.Common.{sym}
use Rattle.xd_least.proofs.SizeLemmas.{least_up_to}
use Rattle.xd_clauses.proofs.cases.accepted_document.Goals as goal

pub returns-in-Some-clause-least : goal.returns-in-Some-clause-least
returns-in-Some-clause-least c =
    least_up_to c.args.auto.now c.learn.new.store c.args.state c.in-Some.least (c.in_ok-learn.ensures.knows.least c.args.state c.in-Some.least (sym c.in-Some.ensures))

pub returns-in-Some-clause-belongs : goal.returns-in-Some-clause-belongs
returns-in-Some-clause-belongs c = (c.in_ok-learn.ensures.knows.least c.args.state c.in-Some.least (sym c.in-Some.ensures)).belongs
