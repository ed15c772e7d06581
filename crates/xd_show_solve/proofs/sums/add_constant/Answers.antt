use Rattle.std.proofs.Common.{refl, Some}
use Rattle.xd_show_solve.proofs.SumSteps.{constant_put, terms_kept}
use Rattle.xd_show_solve.proofs.sums.add_constant.Goals as goal

pub returns-in_ok-made-in-Some-clause-adds : goal.returns-in_ok-made-in-Some-clause-adds
returns-in_ok-made-in-Some-clause-adds c =
    constant_put _ _ c.alt.ensures.keeps c.args.sum.now (record c.args.sum.now { constant = Some c.in_ok-made-in-Some.made }) _ _ _ c.requires.sum c.in-Some.is refl refl c.in_ok-made-in-Some.ensures.same

pub returns-in_ok-made-in-Some-clause-stands : goal.returns-in_ok-made-in-Some-clause-stands
returns-in_ok-made-in-Some-clause-stands c = record {
  terms = terms_kept _ _ c.alt.ensures.keeps c.args.sum.now.terms.items c.requires.sum.terms;
  constant = c.in_ok-made-in-Some.ensures.belongs;
}
