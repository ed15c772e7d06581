use Rattle.xd_goals.proofs.settled.+reach_leaves.Given as goal

abbrev pub decreases-reach_leaves : goal.decreases-reach_leaves
decreases-reach_leaves l = l.root
