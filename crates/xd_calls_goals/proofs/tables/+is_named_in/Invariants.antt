use Rattle.xd_calls_goals.proofs.tables.+is_named_in.Given as goal

abbrev pub decreases-is_named_in : goal.decreases-is_named_in
decreases-is_named_in l = l.node
