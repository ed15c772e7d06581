use Rattle.std.proofs.Common.{get_or, sym, subst}
use Rattle.xd_same_types.proofs.Ids.{got}
use Rattle.xd_show_solve.specs.Equations.{IsShort, TermsStand, product_in, side_in}
use Rattle.xd_show_solve.specs.declared.sums.Term.{Term}
use Rattle.xd_show_solve.proofs.ShortLaws.{short_more}
use Rattle.xd_show_solve.proofs.SideLaws.{a_side}
use Rattle.xd_show_solve.proofs.SumSteps.{constant_of, take_products, term_belongs}
use Rattle.xd_show_solve.proofs.reduce.without.Goals as goal

pub loop-term-preserved : goal.loop-term-preserved
loop-term-preserved c =
    let inv = c.loop-term.invariant in
    let items = c.deref-term-items.result.now in
    let k = c.loop-term.term-index in
    let term : Term = get_or items k (record { by = record { at = 0 }; to = 0 }) in
    let at = got items k _ c.loop-term-test.true in
    record {
      items = inv.items;
      short = λ types h.
          let o = constant_of types c.args.sum.now.constant in
          let other = side_in types c.args.other.now in
          let b = term_belongs types items k term (subst (TermsStand types) (sym inv.items) h.terms) c.loop-term-test.true at in
          subst (λ ps. IsShort other (a_side ps o) (side_in types c.push_unless.new.made)) (sym (take_products types items k term c.loop-term-test.true at))
          (short_more other (side_in types c.loop-term.made) (side_in types c.push_unless.new.made) _ o (product_in types term) (inv.short types h) (c.in_ok-push_unless.ensures.adds types (inv.stands types h) b));
      stands = λ types h.
          let b = term_belongs types items k term (subst (TermsStand types) (sym inv.items) h.terms) c.loop-term-test.true at in
          c.in_ok-push_unless.ensures.stands types (inv.stands types h) b;
    }
