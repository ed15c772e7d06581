use Rattle.std.proofs.Common.{sym, subst}
use Rattle.xd_show_solve.specs.Bundles.{BundlesStand, bundles_in}
use Rattle.xd_show_solve.specs.Equations.{SameSide, TermsStand, products}
use Rattle.xd_show_solve.proofs.ShortLaws.{same_then}
use Rattle.xd_show_solve.proofs.SideLaws.{a_side}
use Rattle.xd_show_solve.proofs.SumSteps.{constant_kept, constant_of}
use Rattle.xd_show_solve.proofs.reduce.merged.Goals as goal

pub terms_of-requires : goal.terms_of-requires
terms_of-requires c =
    let rows = c.args.pool.now.types in
    subst (BundlesStand rows) (sym c.deref-2.ensures.value) (c.in_ok-bundles.ensures.stand rows (subst (TermsStand rows) (sym c.deref.ensures.value) c.requires.terms))

pub returns-clause-same : goal.returns-clause-same
returns-clause-same c =
    let rows = c.args.pool.now.types in
    let new = c.terms_of.new.pool.types in
    let o = constant_of rows c.args.sum.now.constant in
    let sum = a_side (products rows c.args.sum.now.terms.items) o in
    let bundles = a_side (bundles_in rows c.in_ok-bundles.bundles.items) o in
    let made = a_side (products new c.in_ok-terms.terms.items) o in
    let first = subst (λ ts. SameSide (a_side (products rows ts) o) bundles) c.deref.ensures.value (c.in_ok-bundles.ensures.same rows o) in
    let second = subst (λ bs. SameSide (a_side (bundles_in rows bs) o) made) c.deref-2.ensures.value (c.in_ok-terms.ensures.same o) in
    subst (λ p. SameSide sum (a_side (products new c.in_ok-terms.terms.items) p)) (sym (constant_kept rows new c.terms_of.ensures.keeps c.args.sum.now.constant c.requires.constant))
    (same_then sum bundles made first second)
