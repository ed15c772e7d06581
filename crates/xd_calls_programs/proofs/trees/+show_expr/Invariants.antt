use Rattle.xd_calls_programs.proofs.trees.+show_expr.Given as goal

abbrev pub decreases-show_expr : goal.decreases-show_expr
decreases-show_expr l = l.id.at
