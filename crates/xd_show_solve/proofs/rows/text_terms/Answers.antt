use Rattle.std.proofs.Common.{◌+◌, [], ◌∷◌, ◌++◌, take, sym, ap, ◌∙◌, subst}
use Rattle.std.proofs.lemmas.List.{take_all}
use Rattle.xd_doc.proofs.Lists.{all_push}
use Rattle.xd_syntax.specs.Types.{BelongsTo}
use Rattle.xd_show_solve.specs.Equations.{product_in, products}
use Rattle.xd_show_solve.specs.Levels.{AreTextProducts}
use Rattle.xd_show_solve.specs.declared.sums.Term.{Term}
use Rattle.xd_same_types.proofs.Ids.{take_read}
use Rattle.xd_show_solve.proofs.TextMoves.{text_products_more}
use Rattle.xd_show_solve.proofs.SumSteps.{products_append, products_kept, terms_kept}
use Rattle.xd_same_types.proofs.Tables.{keeps_then}
use Rattle.xd_show_solve.proofs.rows.text_terms.Goals as goal

pub loop-step-preserved : goal.loop-step-preserved
loop-step-preserved c =
    let inv = c.loop-step.invariant in
    let now = c.loop-step.pool.types in
    let new = c.text_term.new.pool.types in
    let old = c.loop-step.terms.items in
    let t : Term = c.in_ok-text_term.field-0 in
    let ms = c.args.moves.now in
    let k = c.loop-step.step-index in
    let grown = ap (products new) c.in_ok-push.ensures.items ∙ products_append new old (t ∷ []) ∙ ap (λ ps. ps ++ product_in new t ∷ []) (products_kept now new c.text_term.ensures.keeps old inv.stand) in
    record {
      keeps = keeps_then _ _ _ inv.keeps c.text_term.ensures.keeps;
      stand = rw c.in_ok-push.ensures.items (all_push (λ (u : Term). BelongsTo new u.by) old t (terms_kept now new c.text_term.ensures.keeps old inv.stand) c.in_ok-text_term.ensures.belongs);
      products = λ a.
          subst (λ ps. AreTextProducts a c.args.places.now (take (k + 1) ms) ps) (sym grown)
          (subst (λ xs. AreTextProducts a c.args.places.now xs (products now old ++ product_in new t ∷ [])) (sym (take_read ms k _ c.loop-step-test.true c.step-item.is))
          (text_products_more a c.args.places.now (take k ms) (products now old) _ (product_in new t) (inv.products a) (c.in_ok-text_term.ensures.product a)));
    }

pub returns-clause-products : goal.returns-clause-products
returns-clause-products c = λ a.
    subst (λ ms. AreTextProducts a c.args.places.now ms (products c.loop-step.pool.types c.loop-step.terms.items)) (take_all c.loop-step.step-index c.args.moves.now c.loop-step-test.false) (c.loop-step.invariant.products a)
