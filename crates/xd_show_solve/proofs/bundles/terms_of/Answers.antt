use Rattle.std.proofs.Common.{◌∷◌, ◌+◌, take, refl, sym, subst}
use Rattle.std.proofs.lemmas.List.{take_all}
use Rattle.xd_doc.proofs.Lists.{all_push}
use Rattle.xd_syntax.specs.TreeForms.{alt_of}
use Rattle.xd_syntax.specs.Types.{BelongsTo, tree}
use Rattle.xd_same_types.specs.Same.{MeansSame, trees}
use Rattle.xd_same_types.proofs.Tables.{keeps_then}
use Rattle.xd_show_solve.specs.Bundles.{bundles_in}
use Rattle.xd_show_solve.specs.Equations.{SameSide, TermsStand, products}
use Rattle.xd_show_solve.specs.declared.sums.Term.{Term}
use Rattle.xd_show_solve.proofs.BundleLaws.{bundle_term}
use Rattle.xd_show_solve.proofs.SideLaws.{a_side}
use Rattle.xd_show_solve.proofs.SumSteps.{terms_kept}
use Rattle.xd_show_solve.proofs.bundles.terms_of.Goals as goal

pub loop-bundle-preserved : goal.loop-bundle-preserved
loop-bundle-preserved c =
    let inv = c.loop-bundle.invariant in
    let rows = c.args.pool.now.types in
    let now = c.loop-bundle.pool.types in
    let new = c.alt_of_all.new.pool.types in
    let terms = c.loop-bundle.terms.items in
    let x = c.bundle-item.result in
    let t : Term = record { by = c.in_ok-by.by; to = x.to } in
    let mean = subst (λ ids. MeansSame (tree new t.by) (alt_of (tree now x.first ∷ trees now ids))) c.deref.ensures.value c.in_ok-by.ensures.same in
    record {
      keeps = keeps_then _ _ _ inv.keeps c.alt_of_all.ensures.keeps;
      stand = subst (TermsStand new) (sym c.in_ok-push.ensures.items)
          (all_push (λ (u : Term). BelongsTo new u.by) terms t (terms_kept now new c.alt_of_all.ensures.keeps terms inv.stand) c.in_ok-by.ensures.belongs);
      same = λ o. subst (λ ts. SameSide (a_side (bundles_in rows (take (c.loop-bundle.bundle-index + 1) c.args.bundles.now)) o) (a_side (products new ts) o)) (sym c.in_ok-push.ensures.items)
          (bundle_term rows now new inv.keeps c.alt_of_all.ensures.keeps c.args.bundles.now c.loop-bundle.bundle-index x terms t c.requires inv.stand c.loop-bundle-test.true c.bundle-item.is refl mean o (inv.same o));
    }

pub returns-clause-same : goal.returns-clause-same
returns-clause-same c = λ o.
    let rows = c.args.pool.now.types in
    let bundles = c.args.bundles.now in
    subst (λ bs. SameSide (a_side (bundles_in rows bs) o) (a_side (products c.loop-bundle.pool.types c.loop-bundle.terms.items) o))
    (take_all c.loop-bundle.bundle-index bundles c.loop-bundle-test.false) (c.loop-bundle.invariant.same o)
