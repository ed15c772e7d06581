use Rattle.xd_calls_clauses.proofs.ClausePatterns.{bound_belong}
use Rattle.xd_calls_clauses.proofs.clauses.show_way.Goals as goal

pub show_bindings-requires : goal.show_bindings-requires
show_bindings-requires c = bound_belong _ _ c.in_ok-bindings.bindings c.in_ok-bindings.ensures.found
