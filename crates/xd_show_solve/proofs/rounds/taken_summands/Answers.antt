use Rattle.std.proofs.Common.{get_or, sym, subst, refl}
use Rattle.xd_show_solve.specs.Equations.{product_in, products}
use Rattle.xd_show_solve.specs.Rounds.{AddsTaken, IsTaken}
use Rattle.xd_show_solve.specs.Summands.{summands_in}
use Rattle.xd_show_solve.specs.declared.sums.Term.{Term}
use Rattle.xd_same_types.proofs.Ids.{got}
use Rattle.xd_same_types.proofs.Tables.{keeps_then}
use Rattle.xd_show_solve.proofs.SideLaws.{a_side}
use Rattle.xd_show_solve.proofs.RoundLaws.{stand_before, added_before, taken_more}
use Rattle.xd_show_solve.proofs.SumSteps.{TermsStand, constant_of, take_products, product_kept, term_belongs}
use Rattle.xd_show_solve.proofs.rounds.taken_summands.Goals as goal

pub push_taken-requires-clause-owns : goal.push_taken-requires-clause-owns
push_taken-requires-clause-owns c = stand_before _ _ c.loop-term.invariant.keeps c.args.owns.now c.requires.owns

pub loop-term-preserved : goal.loop-term-preserved
loop-term-preserved c =
    let inv = c.loop-term.invariant in
    let rows = c.args.pool.now.types in
    let now = c.loop-term.pool.types in
    let items = c.deref-term-items.result.now in
    let k = c.loop-term.term-index in
    let owns = c.args.owns.now in
    let term : Term = get_or items k (record { by = record { at = 0 }; to = 0 }) in
    let stand = subst (TermsStand rows) (sym inv.items) c.requires.sum.terms in
    let at = got items k _ c.loop-term-test.true in
    let kept = product_kept rows now inv.keeps term (term_belongs rows items k term stand c.loop-term-test.true at) in
    let o = constant_of rows c.args.sum.now.constant in
    let some = summands_in now c.loop-term.some in
    let new = summands_in c.push_taken.new.pool.types c.push_taken.new.some in
    record {
      keeps = keeps_then _ _ _ inv.keeps c.push_taken.ensures.keeps;
      stand = c.in_ok-push_taken.ensures.stand;
      items = inv.items;
      taken = subst (λ ps. IsTaken rows owns (a_side ps o) new) (sym (take_products rows items k term c.loop-term-test.true at))
          (taken_more rows owns some new o (products rows _) (product_in rows term) inv.taken
          (added_before rows now inv.keeps owns c.requires.owns some (product_in rows term) new
          (subst (λ p. AddsTaken now owns some p new) kept c.in_ok-push_taken.ensures.adds)));
    }
