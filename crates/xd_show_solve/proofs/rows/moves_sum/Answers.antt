use Rattle.std.proofs.Common.{◌++◌, sym, ap, ◌∙◌, subst}
use Rattle.xd_doc.proofs.Lists.{all_append}
use Rattle.xd_syntax.specs.Types.{BelongsTo}
use Rattle.xd_show_solve.specs.Equations.{TermsStand, own_in, products}
use Rattle.xd_show_solve.specs.Levels.{AreLabelProducts, AreTextProducts, IsStateSide, last_tree}
use Rattle.xd_show_solve.specs.declared.sums.Term.{Term}
use Rattle.xd_show_solve.proofs.SideLaws.{a_side}
use Rattle.xd_show_solve.proofs.StateSides.{state_side}
use Rattle.xd_show_solve.proofs.SumSteps.{products_append, products_kept, terms_kept}
use Rattle.xd_same_types.proofs.Tables.{keeps_then}
use Rattle.xd_show_solve.proofs.rows.moves_sum.Goals as goal

pub returns-clause-side : goal.returns-clause-side
returns-clause-side c =
    let a = c.args.auto.now in
    let s = c.args.state in
    let rows = c.args.pool.now.types in
    let written = c.args.written.now in
    let places = c.args.places.now in
    let first = c.label_terms.new.pool.types in
    let second = c.text_terms.new.pool.types in
    let last = c.last_type.new.pool.types in
    let ls = c.in_ok-terms.terms.items in
    let ts = c.in_ok-texts.texts.items in
    let kept = keeps_then _ _ _ c.text_terms.ensures.keeps c.last_type.ensures.keeps in
    let labels = subst (λ ms. AreLabelProducts a rows written places ms (products first ls)) c.label_moves.ensures.value (c.in_ok-terms.ensures.products a) in
    let texts = subst (λ ms. AreTextProducts a places ms (products second ts)) c.text_moves.ensures.value (c.in_ok-texts.ensures.products a) in
    let constant = c.in_ok-constant.ensures.tree ∙ ap last_tree c.is_last.ensures in
    let items = c.in_ok-add_terms.ensures ∙ ap (λ x. ls ++ x) c.deref.ensures.value in
    let both = ap (products last) items ∙ products_append last ls ts
    ∙ ap (λ x. x ++ products last ts) (products_kept first last kept ls c.in_ok-terms.ensures.stand)
    ∙ ap (λ x. products first ls ++ x) (products_kept second last c.last_type.ensures.keeps ts c.in_ok-texts.ensures.stand) in
    subst (λ ps. IsStateSide a rows written places s (a_side ps (own_in last c.in_ok-constant.constant))) (sym both)
    (state_side a rows written places s (products first ls) (products second ts) _ labels texts constant)

pub returns-clause-stands : goal.returns-clause-stands
returns-clause-stands c =
    let first = c.label_terms.new.pool.types in
    let second = c.text_terms.new.pool.types in
    let last = c.last_type.new.pool.types in
    let ls = c.in_ok-terms.terms.items in
    let ts = c.in_ok-texts.texts.items in
    let kept = keeps_then _ _ _ c.text_terms.ensures.keeps c.last_type.ensures.keeps in
    let items = c.in_ok-add_terms.ensures ∙ ap (λ x. ls ++ x) c.deref.ensures.value in
    record {
      terms = subst (TermsStand last) (sym items) (all_append (λ (t : Term). BelongsTo last t.by) ls ts
          (terms_kept first last kept ls c.in_ok-terms.ensures.stand) (terms_kept second last c.last_type.ensures.keeps ts c.in_ok-texts.ensures.stand));
      constant = c.in_ok-constant.ensures.belongs;
    }
