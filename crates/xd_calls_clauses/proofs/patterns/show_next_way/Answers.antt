use Rattle.xd_calls_clauses.proofs.ClausePatterns.{bound_belong}
use Rattle.xd_calls_clauses.proofs.patterns.show_next_way.Goals as goal

pub first_way-requires-clause-serves : goal.first_way-requires-clause-serves
first_way-requires-clause-serves c = c.stays_serving.ensures c.args.sound.now c.args.store.now c.read_document.new.store c.requires.serves c.read_document.ensures.keeps

pub show_bindings-requires : goal.show_bindings-requires
show_bindings-requires c = bound_belong _ _ c.in_ok-bindings.bindings c.in_ok-bindings.ensures.found
