use Rattle.xd_clauses.proofs.cases.uncovered.Goals as goal

pub accepted_document-requires-clause-known : goal.accepted_document-requires-clause-known
accepted_document-requires-clause-known c = c.new-known.ensures c.in_ok-own.own c.args.store.now
