use Rattle.std.proofs.Common.{None, subst}
use Rattle.std.specs.Option.{IfSome}
use Rattle.xd_syntax.specs.Types.{BelongsTo, tree}
use Rattle.xd_show_solve.specs.Equations.{AddsConstant, AddsMultiple, products}
use Rattle.xd_show_solve.specs.Summands.{summands_in}
use Rattle.xd_same_types.proofs.Ids.{on_map}
use Rattle.xd_show_solve.proofs.SideLaws.{a_side}
use Rattle.xd_show_solve.proofs.SummandLaws.{multiple_whole, summands_kept, summands_stay}
use Rattle.xd_show_solve.proofs.summands.push_multiple.Goals as goal

pub returns-in_ok-product-in-Some-clause-adds : goal.returns-in_ok-product-in-Some-clause-adds
returns-in_ok-product-in-Some-clause-adds c =
    let rows = c.args.pool.now.types in
    let now = c.push_products.new.pool.types in
    let new = c.seq.new.pool.types in
    let some = c.push_products.new.some in
    let n = subst (λ o. IfSome o (BelongsTo rows)) c.in-Some.is c.requires.sum.constant in
    let products_of = subst (λ ts. AddsMultiple (summands_in rows c.args.some.now) (tree rows c.args.by) (a_side (products rows ts) None) (summands_in now some)) c.deref.ensures.value c.in_ok-push_products.ensures.adds in
    let kept = summands_kept now new c.seq.ensures.keeps some c.in_ok-push_products.ensures.stand in
    on_map c.push_constant.result _ _
    (λ a. multiple_whole rows now new c.push_products.ensures.keeps (summands_in rows c.args.some.now) (summands_in now some) _ c.args.by c.args.sum.now c.in-Some.constant c.in_ok-product-in-Some.product
    c.requires.by n c.in-Some.is products_of c.in_ok-product-in-Some.ensures.same (subst (λ x. AddsConstant x (tree new c.in_ok-product-in-Some.product) (summands_in new c.push_constant.new.some)) kept (a new)))
    c.push_constant.ensures.adds

pub returns-in_ok-product-in-Some-clause-stand : goal.returns-in_ok-product-in-Some-clause-stand
returns-in_ok-product-in-Some-clause-stand c =
    let new = c.seq.new.pool.types in
    let stay = summands_stay c.push_products.new.pool.types new c.seq.ensures.keeps c.push_products.new.some c.in_ok-push_products.ensures.stand in
    on_map c.push_constant.result _ _ (λ s. s new stay c.in_ok-product-in-Some.ensures.belongs) c.push_constant.ensures.stand
