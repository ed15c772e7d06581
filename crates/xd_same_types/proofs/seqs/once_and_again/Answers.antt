use Rattle.xd_same_types.proofs.Laws.{fuse_star_one}
use Rattle.xd_same_types.proofs.seqs.once_and_again.Goals as goal

pub returns-then-is_star-2-clause-same : goal.returns-then-is_star-2-clause-same
returns-then-is_star-2-clause-same c = fuse_star_one _ _ (c.is_star-2.ensures c.if-is_star-2.true)
