use Rattle.std.proofs.Common.{get_or, sym, subst}
use Rattle.std.proofs.lemmas.List.{take_all}
use Rattle.xd_doc.proofs.Lists.{all_but_last}
use Rattle.xd_syntax.specs.Types.{BelongsTo}
use Rattle.xd_same_types.proofs.Ids.{got, take_read}
use Rattle.xd_show_solve.specs.Bundles.{bundles_in}
use Rattle.xd_show_solve.specs.Equations.{SameSide, TermsStand, product_in, products}
use Rattle.xd_show_solve.specs.declared.sums.Term.{Term}
use Rattle.xd_show_solve.proofs.ShortLaws.{same_more}
use Rattle.xd_show_solve.proofs.SideLaws.{a_side}
use Rattle.xd_show_solve.proofs.SumSteps.{take_products}
use Rattle.xd_show_solve.proofs.bundles.bundled.Goals as goal

pub loop-term-preserved : goal.loop-term-preserved
loop-term-preserved c =
    let inv = c.loop-term.invariant in
    let items = c.args.terms.now in
    let k = c.loop-term.term-index in
    let term : Term = get_or items k (record { by = record { at = 0 }; to = 0 }) in
    let at = got items k _ c.loop-term-test.true in
    record {
      same = λ types o. subst (λ ps. SameSide (a_side ps o) (a_side (bundles_in types c.add_bundled.new.bundles.items) o)) (sym (take_products types items k term c.loop-term-test.true at))
          (same_more (a_side (bundles_in types c.loop-term.bundles.items) o) _ _ o (product_in types term) (inv.same types o) (c.in_ok-add_bundled.ensures.adds types o));
      stand = λ types h.
          let l = all_but_last (λ (u : Term). BelongsTo types u.by) _ term (subst (TermsStand types) (take_read items k term c.loop-term-test.true at) h) in
          c.in_ok-add_bundled.ensures.stand types (inv.stand types l.0) l.1;
    }

pub returns-clause-same : goal.returns-clause-same
returns-clause-same c = λ types o.
    subst (λ ts. SameSide (a_side (products types ts) o) (a_side (bundles_in types c.loop-term.bundles.items) o)) (take_all c.loop-term.term-index c.args.terms.now c.loop-term-test.false) (c.loop-term.invariant.same types o)

pub returns-clause-stand : goal.returns-clause-stand
returns-clause-stand c = λ types h.
    c.loop-term.invariant.stand types (subst (TermsStand types) (sym (take_all c.loop-term.term-index c.args.terms.now c.loop-term-test.false)) h)
