use Rattle.std.proofs.Common.{None, get_or, subst}
use Rattle.std.proofs.lemmas.List.{take_all}
use Rattle.xd_syntax.specs.Types.{tree}
use Rattle.xd_show_solve.specs.Equations.{AddsMultiple, AddsProduct, product_in, products}
use Rattle.xd_show_solve.specs.Summands.{summands_in}
use Rattle.xd_show_solve.specs.declared.sums.Term.{Term}
use Rattle.xd_same_types.proofs.Ids.{got}
use Rattle.xd_same_types.proofs.Tables.{keeps_then}
use Rattle.xd_show_solve.proofs.SideLaws.{a_side}
use Rattle.xd_show_solve.proofs.SumSteps.{term_more}
use Rattle.xd_show_solve.proofs.SummandLaws.{summands_kept, summands_stay}
use Rattle.xd_show_solve.proofs.summands.push_products.Goals as goal

pub loop-term-preserved : goal.loop-term-preserved
loop-term-preserved c =
    let inv = c.loop-term.invariant in
    let rows = c.args.pool.now.types in
    let now = c.loop-term.pool.types in
    let new = c.seq.new.pool.types in
    let items = c.args.terms.now in
    let k = c.loop-term.term-index in
    let term : Term = get_or items k (record { by = record { at = 0 }; to = 0 }) in
    let made : Term = record { by = c.in_ok-product.product; to = term.to } in
    record {
      keeps = keeps_then _ _ _ inv.keeps c.seq.ensures.keeps;
      stand = c.in_ok-push_term.ensures.stand new (summands_stay now new c.seq.ensures.keeps c.loop-term.some inv.stand) c.in_ok-product.ensures.belongs;
      adds = term_more rows now new inv.keeps _ _ _ c.args.by items k _ c.in_ok-product.product c.requires.terms c.requires.by c.loop-term-test.true (got items k _ c.loop-term-test.true) inv.adds c.in_ok-product.ensures.same
          (subst (λ x. AddsProduct x (product_in new made) (summands_in new c.push_term.new.some)) (summands_kept now new c.seq.ensures.keeps c.loop-term.some inv.stand) (c.in_ok-push_term.ensures.adds new));
    }

pub returns-clause-adds : goal.returns-clause-adds
returns-clause-adds c =
    let rows = c.args.pool.now.types in
    subst (λ ts. AddsMultiple (summands_in rows c.args.some.now) (tree rows c.args.by) (a_side (products rows ts) None) (summands_in c.loop-term.pool.types c.loop-term.some))
    (take_all c.loop-term.term-index c.args.terms.now c.loop-term-test.false) c.loop-term.invariant.adds
