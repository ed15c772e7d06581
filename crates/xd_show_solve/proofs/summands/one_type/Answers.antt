use Rattle.std.proofs.Common.{None, Some, subst, sym}
use Rattle.xd_syntax.specs.Types.{tree}
use Rattle.xd_show_solve.specs.Summands.{MeansOne, one_in}
use Rattle.xd_show_solve.proofs.summands.one_type.Goals as goal

pub returns-in-None-clause-one : goal.returns-in-None-clause-one
returns-in-None-clause-one c = subst (λ o. MeansOne (one_in c.args.pool.now.types o c.args.more.now) None) (sym c.in-None.is) tt

pub returns-in_ok-made-in-Some-clause-one : goal.returns-in_ok-made-in-Some-clause-one
returns-in_ok-made-in-Some-clause-one c =
    subst (λ o. MeansOne (one_in c.args.pool.now.types o c.args.more.now) (Some (tree c.alt_of_all.new.pool.types c.in_ok-made-in-Some.made))) (sym c.in-Some.is) c.in_ok-made-in-Some.ensures.same
