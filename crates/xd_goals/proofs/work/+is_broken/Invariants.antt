use Rattle.xd_goals.proofs.work.+is_broken.Given as goal

abbrev pub decreases-is_broken : goal.decreases-is_broken
decreases-is_broken l = l.root
