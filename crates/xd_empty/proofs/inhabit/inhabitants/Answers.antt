use Rattle.xd_empty.proofs.KnownLemmas.{known_inhabitants}
use Rattle.xd_empty.proofs.inhabit.inhabitants.Goals as goal

pub learn-requires : goal.learn-requires
learn-requires c = c.new-known.ensures c.args.auto.now c.args.store.now

pub returns-clause-inhabitants : goal.returns-clause-inhabitants
returns-clause-inhabitants c = rw c.into_documents.ensures (known_inhabitants c.args.auto.now c.learn.new.store c.learn.new.self c.in_ok-learn.ensures.all c.in_ok-learn.ensures.knows)
