use Rattle.std.proofs.Common.{subst, sym}
use Rattle.std.specs.List.{AllByRecursion}
use Rattle.xd_syntax.specs.Types.{BelongsTo}
use Rattle.xd_show_solve.specs.Bundles.{BundlesStand, bundles_in}
use Rattle.xd_show_solve.specs.Equations.{SameSide, TermsStand, own_in, products}
use Rattle.xd_show_solve.specs.Summands.{MeansOne, one_in}
use Rattle.xd_show_solve.specs.declared.sums.Sum.{Sum}
use Rattle.xd_show_solve.proofs.ShortLaws.{same_then}
use Rattle.xd_show_solve.proofs.SideLaws.{a_side}
use Rattle.xd_show_solve.proofs.SumSteps.{terms_kept}
use Rattle.xd_show_solve.proofs.SummandLaws.{summands_stay, together}
use Rattle.xd_show_solve.proofs.summands.put_together.Goals as goal

pub terms_of-requires : goal.terms_of-requires
terms_of-requires c =
    let rows = c.args.pool.now.types in
    subst (BundlesStand rows) (sym c.deref-2.ensures.value) (c.in_ok-bundles.ensures.stand rows (subst (TermsStand rows) (sym c.deref.ensures.value) c.requires.terms))

pub one_type-requires-clause-first : goal.one_type-requires-clause-first
one_type-requires-clause-first c = (summands_stay c.args.pool.now.types c.terms_of.new.pool.types c.terms_of.ensures.keeps c.args.some.now c.requires).first

pub one_type-requires-clause-more : goal.one_type-requires-clause-more
one_type-requires-clause-more c =
    subst (AllByRecursion (BelongsTo c.terms_of.new.pool.types)) (sym c.deref-3.ensures.value) (summands_stay c.args.pool.now.types c.terms_of.new.pool.types c.terms_of.ensures.keeps c.args.some.now c.requires).more

pub returns-clause-same : goal.returns-clause-same
returns-clause-same c =
    let rows = c.args.pool.now.types in
    let mid = c.terms_of.new.pool.types in
    let new = c.one_type.new.pool.types in
    let some = c.args.some.now in
    let made : Sum = record { terms = c.in_ok-terms.terms; constant = c.in_ok-constant.constant } in
    together rows mid new c.terms_of.ensures.keeps c.one_type.ensures.keeps some made c.requires c.in_ok-terms.ensures.stand
    (λ o. same_then (a_side (products rows some.terms.items) o) (a_side (bundles_in rows c.in_ok-bundles.bundles.items) o) (a_side (products mid made.terms.items) o)
    (subst (λ ts. SameSide (a_side (products rows ts) o) (a_side (bundles_in rows c.in_ok-bundles.bundles.items) o)) c.deref.ensures.value (c.in_ok-bundles.ensures.same rows o))
    (subst (λ bs. SameSide (a_side (bundles_in rows bs) o) (a_side (products mid made.terms.items) o)) c.deref-2.ensures.value (c.in_ok-terms.ensures.same o)))
    (subst (λ ids. MeansOne (one_in mid some.first ids) (own_in new made.constant)) c.deref-3.ensures.value c.in_ok-constant.ensures.one)

pub returns-clause-stands : goal.returns-clause-stands
returns-clause-stands c = record {
  terms = terms_kept c.terms_of.new.pool.types c.one_type.new.pool.types c.one_type.ensures.keeps c.in_ok-terms.terms.items c.in_ok-terms.ensures.stand;
  constant = c.in_ok-constant.ensures.belongs;
}
