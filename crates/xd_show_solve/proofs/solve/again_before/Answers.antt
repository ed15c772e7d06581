use Rattle.std.proofs.Common.{[], None, subst}
use Rattle.xd_syntax.specs.Types.{tree}
use Rattle.xd_show_solve.specs.Equations.{AddsMultiple, side_in}
use Rattle.xd_show_solve.proofs.SideLaws.{a_side}
use Rattle.xd_show_solve.proofs.SumSteps.{products, side_kept}
use Rattle.xd_show_solve.proofs.solve.again_before.Goals as goal

pub returns-clause-before : goal.returns-clause-before
returns-clause-before c =
    let mid = c.star.new.pool.types in
    let new = side_in c.add_multiple.new.pool.types c.add_multiple.new.made in
    record {
      star = tree mid c.in_ok-again.again;
      same = c.in_ok-again.ensures.same;
      multiple = subst (λ s. AddsMultiple (a_side [] None) (tree mid c.in_ok-again.again) s new) (side_kept _ _ c.star.ensures.keeps c.args.rest.now c.requires.rest)
          (subst (λ ts. AddsMultiple (a_side (products mid ts) None) (tree mid c.in_ok-again.again) (side_in mid c.args.rest.now) new) c.new.ensures.items c.in_ok-add_multiple.ensures.adds);
    }
