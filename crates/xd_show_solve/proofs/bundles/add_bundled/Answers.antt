use Rattle.std.proofs.Common.{refl, set, sym, subst}
use Rattle.xd_syntax.specs.Types.{tree}
use Rattle.xd_show_solve.specs.Bundles.{IsBundleOf, bundles_in}
use Rattle.xd_show_solve.specs.Equations.{AddsProduct, product_in}
use Rattle.xd_show_solve.specs.declared.bundles.Bundle.{Bundle}
use Rattle.xd_show_solve.proofs.BundleLaws.{bundle_pushed, bundle_put}
use Rattle.xd_show_solve.proofs.SideLaws.{a_product, a_side}
use Rattle.xd_show_solve.proofs.bundles.add_bundled.Goals as goal

pub returns-in_ok-push-in-Some-clause-adds : goal.returns-in_ok-push-in-Some-clause-adds
returns-in_ok-push-in-Some-clause-adds c = λ types o.
    let bs = c.args.bundles.now.items in
    let k = c.in-Some.place in
    let b = c.index_mut.result.now in
    let new : Bundle = record { first = b.first; more = c.push.new.self; to = b.to } in
    let is = subst (λ xs. IsBundleOf c.args.term.to xs k) c.deref.ensures.value c.in-Some.ensures in
    let right = is.right b c.index_mut.ensures.value in
    subst (λ i. AddsProduct (a_side (bundles_in types bs) o) (a_product (tree types c.args.term.by) i) (a_side (bundles_in types (set bs k new)) o)) right
    (bundle_put types o bs k b new c.args.term.by is.within c.index_mut.ensures.value refl c.in_ok-push-in-Some.ensures.items refl)

pub returns-in_ok-push-in-None-clause-adds : goal.returns-in_ok-push-in-None-clause-adds
returns-in_ok-push-in-None-clause-adds c = λ types o.
    let bs = c.args.bundles.now.items in
    let new : Bundle = record { first = c.args.term.by; more = c.new.result; to = c.args.term.to } in
    subst (λ xs. AddsProduct (a_side (bundles_in types bs) o) (product_in types c.args.term) (a_side (bundles_in types xs) o)) (sym c.in_ok-push-in-None.ensures.items)
    (bundle_pushed types o bs new c.args.term refl c.new.ensures.items refl)
