use Rattle.std.proofs.Common.{subst}
use Rattle.xd_syntax.specs.Types.{tree}
use Rattle.xd_same_types.proofs.Ids.{ok_map}
use Rattle.xd_show_solve.specs.Equations.{AddsProduct, side_in}
use Rattle.xd_show_solve.proofs.SideLaws.{a_product}
use Rattle.xd_show_solve.proofs.ShortLaws.{covered_within, short_then, shortens_then}
use Rattle.xd_show_solve.proofs.SumSteps.{side_kept, stands_kept}
use Rattle.xd_show_solve.proofs.reduce.with_unknown.Goals as goal

pub merged-requires : goal.merged-requires
merged-requires c =
    let rows = c.args.pool.now.types in
    let new = c.node.new.pool.types in
    let rest = c.in_ok-rest.rest in
    c.in_ok-push_term.ensures.stands new (stands_kept rows new c.node.ensures.keeps rest (c.in_ok-rest.ensures.stands rows c.requires.sum)) c.in_ok-by.ensures.belongs

pub returns-clause-shortens : goal.returns-clause-shortens
returns-clause-shortens c =
    let rows = c.args.pool.now.types in
    let new = c.node.new.pool.types in
    let rest = c.in_ok-rest.rest in
    let made = c.push_term.new.made in
    let stands = c.in_ok-rest.ensures.stands rows c.requires.sum in
    let adds = c.in_ok-push_term.ensures.adds new (stands_kept rows new c.node.ensures.keeps rest stands) c.in_ok-by.ensures.belongs in
    let other = side_in rows c.args.other.now in
    let shortens = short_then c.args.of other (side_in rows c.args.sum.now) (side_in rows rest) (side_in new made) (c.in_ok-rest.ensures.short rows c.requires.sum) (covered_within rows c.args.sum.now c.args.other.now c.requires.covers)
    (subst (λ T. AddsProduct (side_in rows rest) (a_product T c.args.of) (side_in new made)) c.in_ok-by.ensures.tree
    (subst (λ s. AddsProduct s (a_product (tree new c.in_ok-by.by) c.args.of) (side_in new made)) (side_kept rows new c.node.ensures.keeps rest stands) adds)) in
    ok_map c.merged.result _ _ (λ x s. shortens_then c.args.of other (side_in rows c.args.sum.now) (side_in new made) (side_in c.merged.new.pool.types x) shortens s) c.merged.ensures.same
