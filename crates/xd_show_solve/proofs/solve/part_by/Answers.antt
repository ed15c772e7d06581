use Rattle.std.proofs.Common.{get_or, sym, subst}
use Rattle.xd_show_solve.specs.Equations.{IsParted, PartsMore, own_in, product_in, side_in}
use Rattle.xd_show_solve.specs.declared.sums.Term.{Term}
use Rattle.xd_same_types.proofs.Ids.{got}
use Rattle.xd_show_solve.proofs.SideLaws.{a_side}
use Rattle.xd_show_solve.proofs.SolveLaws.{parted_more}
use Rattle.xd_show_solve.proofs.SumSteps.{TermsStand, constant_of, take_products, product_kept, term_belongs}
use Rattle.xd_same_types.proofs.Tables.{keeps_then}
use Rattle.xd_show_solve.proofs.solve.part_by.Goals as goal

pub loop-term-preserved : goal.loop-term-preserved
loop-term-preserved c =
    let inv = c.loop-term.invariant in
    let rows = c.args.pool.now.types in
    let items = c.deref-term-items.result.now in
    let k = c.loop-term.term-index in
    let term : Term = get_or items k (record { by = record { at = 0 }; to = 0 }) in
    let stand = subst (TermsStand rows) (sym inv.items) c.requires.terms in
    let at = got items k _ c.loop-term-test.true in
    let kept = product_kept rows c.loop-term.pool.types inv.keeps term (term_belongs rows items k term stand c.loop-term-test.true at) in
    let o = constant_of rows c.args.sum.now.constant in
    record {
      keeps = keeps_then _ _ _ inv.keeps c.part_term.ensures.keeps;
      rest = c.in_ok-part_term.ensures.rest;
      own = c.in_ok-part_term.ensures.own;
      items = inv.items;
      parted = subst (λ ps. IsParted (a_side ps o) c.args.of (own_in c.part_term.new.pool.types c.part_term.new.parts.own) (side_in c.part_term.new.pool.types c.part_term.new.parts.rest)) (sym (take_products rows items k term c.loop-term-test.true at))
          (parted_more c.args.of o _ _ _ (product_in rows term) _ _ inv.parted
          (subst (λ p. PartsMore c.args.of (own_in c.loop-term.pool.types c.loop-term.parts.own) (side_in c.loop-term.pool.types c.loop-term.parts.rest) p (own_in c.part_term.new.pool.types c.part_term.new.parts.own) (side_in c.part_term.new.pool.types c.part_term.new.parts.rest)) kept c.in_ok-part_term.ensures.parts));
    }
