use Rattle.std.proofs.Common.{get_or, sym, subst}
use Rattle.xd_show_solve.specs.Equations.{IsReplaced, AddsReplaced, product_in, side_in}
use Rattle.xd_show_solve.specs.declared.sums.Term.{Term}
use Rattle.xd_same_types.proofs.Ids.{got}
use Rattle.xd_show_solve.proofs.SideLaws.{a_side}
use Rattle.xd_show_solve.proofs.SolveLaws.{replaced_more}
use Rattle.xd_show_solve.proofs.SumSteps.{TermsStand, constant_of, take_products, product_kept, term_belongs, side_kept}
use Rattle.xd_same_types.proofs.Tables.{keeps_then}
use Rattle.xd_show_solve.proofs.solve.replaced.Goals as goal

pub loop-term-preserved : goal.loop-term-preserved
loop-term-preserved c =
    let inv = c.loop-term.invariant in
    let rows = c.args.pool.now.types in
    let now = c.loop-term.pool.types in
    let items = c.deref-term-items.result.now in
    let k = c.loop-term.term-index in
    let term : Term = get_or items k (record { by = record { at = 0 }; to = 0 }) in
    let stand = subst (TermsStand rows) (sym inv.items) c.requires.sum.terms in
    let at = got items k _ c.loop-term-test.true in
    let kept = product_kept rows now inv.keeps term (term_belongs rows items k term stand c.loop-term-test.true at) in
    let by = side_kept rows now inv.keeps c.args.by.now c.requires.by in
    let o = constant_of rows c.args.sum.now.constant in
    let new = side_in c.add_replaced.new.pool.types c.add_replaced.new.made in
    record {
      keeps = keeps_then _ _ _ inv.keeps c.add_replaced.ensures.keeps;
      stands = c.in_ok-add_replaced.ensures.stands;
      items = inv.items;
      replaced = subst (λ ps. IsReplaced c.args.of (side_in rows c.args.by.now) (a_side ps o) new) (sym (take_products rows items k term c.loop-term-test.true at))
          (replaced_more c.args.of (side_in rows c.args.by.now) (side_in now c.loop-term.made) new o _ (product_in rows term) inv.replaced
          (subst (λ b. AddsReplaced c.args.of b (side_in now c.loop-term.made) (product_in rows term) new) by
          (subst (λ p. AddsReplaced c.args.of (side_in now c.args.by.now) (side_in now c.loop-term.made) p new) kept c.in_ok-add_replaced.ensures.adds)));
    }
