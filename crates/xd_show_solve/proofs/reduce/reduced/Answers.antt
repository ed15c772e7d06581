use Rattle.std.proofs.Common.{◌≡◌, ◌∙◌, ◌+◌, length, sym, ap, subst, arith}
use Rattle.xd_doc.proofs.Lists.{length_push}
use Rattle.xd_show_solve.specs.Equations.{side_in}
use Rattle.xd_show_solve.specs.Systems.{AllStand}
use Rattle.xd_show_solve.proofs.ReduceLaws.{AllRewritten, all_reduce, all_rewritten_more, all_stand_kept, all_stand_more, rewrites_back}
use Rattle.xd_same_types.proofs.Tables.{keeps_then}
use Rattle.xd_show_solve.proofs.reduce.reduced.Goals as goal

pub rewritten-requires-clause-sums : goal.rewritten-requires-clause-sums
rewritten-requires-clause-sums c = all_stand_kept _ _ c.loop-number.invariant.keeps c.args.sums.now c.requires

pub loop-number-preserved : goal.loop-number-preserved
loop-number-preserved c =
    let inv = c.loop-number.invariant in
    let rows = c.args.pool.now.types in
    let now = c.loop-number.pool.types in
    let new = c.rewritten.new.pool.types in
    let ss = c.args.sums.now in
    let made = c.loop-number.made.items in
    let k = c.loop-number.number in
    let sum = c.in_ok-sum.sum in
    let back = rewrites_back rows now inv.keeps ss k (side_in new sum) c.loop-number-test.true c.requires c.in_ok-sum.ensures.rewrites in
    let e = sym c.in_ok-push.ensures.items in
    record {
      keeps = keeps_then _ _ _ inv.keeps c.rewritten.ensures.keeps;
      count = ap length c.in_ok-push.ensures.items ∙ length_push made sum ∙ ap (λ n. n + 1) inv.count;
      stand = subst (AllStand new) e (all_stand_more now new c.rewritten.ensures.keeps made sum inv.stand c.in_ok-sum.ensures.stands);
      rewritten = subst (AllRewritten rows new ss) e (all_rewritten_more rows now new c.rewritten.ensures.keeps ss made sum k (sym inv.count) inv.stand inv.rewritten back);
    }

pub returns-clause-reduces : goal.returns-clause-reduces
returns-clause-reduces c =
    let inv = c.loop-number.invariant in
    let e : length c.loop-number.made.items ≡ length c.args.sums.now = omega (arith, inv.count, c.loop-number.auto.number-end, c.loop-number-test.false) in
    all_reduce c.args.pool.now.types c.loop-number.pool.types c.args.sums.now c.loop-number.made.items e inv.rewritten
