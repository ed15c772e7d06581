use Rattle.std.proofs.Common.{get_or, None, sym, ◌∙◌, subst}
use Rattle.std.proofs.lemmas.List.{take_all}
use Rattle.std.specs.Option.{IfSome}
use Rattle.xd_syntax.specs.Types.{BelongsTo, tree}
use Rattle.xd_show_solve.specs.Equations.{AddsMultiple, AddsProduct, product_in, side_in}
use Rattle.xd_show_solve.specs.declared.sums.Term.{Term}
use Rattle.xd_same_types.proofs.Ids.{got, on_map}
use Rattle.xd_show_solve.proofs.SideLaws.{a_side}
use Rattle.xd_show_solve.proofs.SumSteps.{TermsStand, products, term_more, constant_multiple, side_kept, stands_kept}
use Rattle.xd_same_types.proofs.Tables.{keeps_then}
use Rattle.xd_show_solve.proofs.sums.add_multiple.Goals as goal

pub loop-term-preserved : goal.loop-term-preserved
loop-term-preserved c =
    let inv = c.loop-term.invariant in
    let rows = c.args.pool.now.types in
    let items = c.deref-term-items.result.now in
    let k = c.loop-term.term-index in
    let term : Term = get_or items k (record { by = record { at = 0 }; to = 0 }) in
    let made : Term = record { by = c.in_ok-product.product; to = term.to } in
    let stand = subst (TermsStand rows) (sym inv.items) c.requires.sum.terms in
    record {
      keeps = keeps_then _ _ _ (keeps_then _ _ _ inv.keeps c.seq.ensures.keeps) c.add_term.ensures.keeps;
      stands = c.in_ok-add_term.ensures.stands;
      items = inv.items;
      multiple = term_more rows c.loop-term.pool.types c.seq.new.pool.types inv.keeps _ _ _ c.args.by items k _ c.in_ok-product.product stand c.requires.by c.loop-term-test.true (got items k _ c.loop-term-test.true) inv.multiple c.in_ok-product.ensures.same
          (subst (λ x. AddsProduct x (product_in c.seq.new.pool.types made) (side_in c.add_term.new.pool.types c.add_term.new.sum)) (side_kept _ _ c.seq.ensures.keeps c.loop-term.made inv.stands) c.in_ok-add_term.ensures.adds);
    }

pub add_constant-requires-clause-sum : goal.add_constant-requires-clause-sum
add_constant-requires-clause-sum c = stands_kept _ _ c.seq-in-Some.ensures.keeps c.loop-term.made c.loop-term.invariant.stands

pub returns-in_ok-product-in-Some-clause-adds : goal.returns-in_ok-product-in-Some-clause-adds
returns-in_ok-product-in-Some-clause-adds c =
    let inv = c.loop-term.invariant in
    let rows = c.args.pool.now.types in
    let items = c.deref-term-items.result.now in
    let n = subst (λ o. IfSome o (BelongsTo rows)) c.in-Some.is c.requires.sum.constant in
    let whole = subst (λ xs. AddsMultiple (side_in rows c.args.made.now) (tree rows c.args.by) (a_side (products rows xs) None) (side_in c.loop-term.pool.types c.loop-term.made))
    (take_all c.loop-term.term-index items c.loop-term-test.false ∙ inv.items) inv.multiple in
    on_map c.add_constant.result _ _
    (λ a. constant_multiple rows c.loop-term.pool.types c.seq-in-Some.new.pool.types inv.keeps c.seq-in-Some.ensures.keeps _ _ c.args.by c.args.sum.now c.loop-term.made c.in-Some.constant c.in_ok-product-in-Some.product
    c.requires.sum inv.stands c.requires.by n c.in-Some.is whole c.in_ok-product-in-Some.ensures.same a)
    c.add_constant.ensures.adds
