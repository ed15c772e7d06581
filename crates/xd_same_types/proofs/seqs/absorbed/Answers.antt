use Rattle.xd_same_types.proofs.Laws.{fuse_star_star, fuse_plus_star, fuse_opt_star, fuse_star_plus, fuse_star_opt}
use Rattle.xd_same_types.proofs.seqs.absorbed.Goals as goal

pub returns-then-is_star-clause-same : goal.returns-then-is_star-clause-same
returns-then-is_star-clause-same c = fuse_star_star _ _ _ (c.is_star.ensures c.if-is_star.true) c.in-Some.ensures.star

pub returns-then-is_plus-clause-same : goal.returns-then-is_plus-clause-same
returns-then-is_plus-clause-same c = fuse_plus_star _ _ _ (c.is_plus.ensures c.if-is_plus.true) c.in-Some.ensures.star

pub returns-then-is_opt-clause-same : goal.returns-then-is_opt-clause-same
returns-then-is_opt-clause-same c = fuse_opt_star _ _ _ (c.is_opt.ensures c.if-is_opt.true) c.in-Some.ensures.star

pub returns-then-is_plus-2-clause-same : goal.returns-then-is_plus-2-clause-same
returns-then-is_plus-2-clause-same c = fuse_star_plus _ _ _ c.in-Some-star_of.ensures.star (c.is_plus-in-Some-star_of.ensures c.if-is_plus-2.true)

pub returns-then-is_opt-2-clause-same : goal.returns-then-is_opt-2-clause-same
returns-then-is_opt-2-clause-same c = fuse_star_opt _ _ _ c.in-Some-star_of.ensures.star (c.is_opt-in-Some-star_of.ensures c.if-is_opt-2.true)
