use Rattle.std.proofs.Common.{subst}
use Rattle.xd_show_solve.specs.Equations.{IsParted, own_in, side_in}
use Rattle.xd_same_types.proofs.Ids.{ok_map}
use Rattle.xd_show_solve.proofs.SolveLaws.{solved_none, solved_some}
use Rattle.xd_show_solve.proofs.solve.solved.Goals as goal

pub returns-in-None-clause-solved : goal.returns-in-None-clause-solved
returns-in-None-clause-solved c =
    let mid = c.part_by.new.pool.types in
    let rest = c.in_ok-own.field-0.rest in
    solved_none _ _ _ (subst (λ o. IsParted (side_in c.args.pool.now.types c.args.sum.now) c.args.of (own_in mid o) (side_in mid rest)) c.in-None.is c.in_ok-own.ensures.parted)

pub returns-in-Some-clause-solved : goal.returns-in-Some-clause-solved
returns-in-Some-clause-solved c =
    let mid = c.part_by.new.pool.types in
    let rest = c.in_ok-own.field-0.rest in
    let parted = subst (λ o. IsParted (side_in c.args.pool.now.types c.args.sum.now) c.args.of (own_in mid o) (side_in mid rest)) c.in-Some.is c.in_ok-own.ensures.parted in
    ok_map c.again_before.result _ _ (λ made b. solved_some _ _ _ _ _ _ parted b.same b.multiple) c.again_before.ensures.before
