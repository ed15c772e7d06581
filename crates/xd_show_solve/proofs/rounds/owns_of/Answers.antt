use Rattle.std.proofs.Common.{◌≡◌, ◌∙◌, ◌+◌, length, sym, ap, subst}
use Rattle.xd_doc.proofs.Lists.{all_there, length_push}
use Rattle.xd_show_solve.specs.Equations.{SumStands}
use Rattle.xd_show_solve.specs.Rounds.{AreOwns}
use Rattle.xd_same_types.proofs.Tables.{keeps_then}
use Rattle.xd_show_solve.proofs.RoundLaws.{owns_more}
use Rattle.xd_show_solve.proofs.SumSteps.{stands_kept}
use Rattle.xd_show_solve.proofs.rounds.owns_of.Goals as goal

pub own_of-requires : goal.own_of-requires
own_of-requires c =
    stands_kept _ _ c.loop-number.invariant.keeps c.index-sums-number.result (all_there (SumStands c.args.pool.now.types) c.args.sums.now c.loop-number.number c.index-sums-number.result c.requires.sums c.loop-number-test.true c.index-sums-number.is)

pub loop-number-preserved : goal.loop-number-preserved
loop-number-preserved c =
    let inv = c.loop-number.invariant in
    let rows = c.args.pool.now.types in
    let now = c.loop-number.pool.types in
    let new = c.own_of.new.pool.types in
    let made = c.loop-number.made.items in
    let own = c.in_ok-own.own in
    record {
      keeps = keeps_then _ _ _ inv.keeps c.own_of.ensures.keeps;
      count = ap length c.in_ok-push.ensures.items ∙ length_push made own ∙ ap (λ n. n + 1) inv.count;
      owns = subst (AreOwns rows new c.args.sums.now c.args.alive.now) (sym c.in_ok-push.ensures.items)
          (owns_more rows now new inv.keeps c.own_of.ensures.keeps c.args.sums.now c.args.alive.now made c.loop-number.number c.is_asked-asked.result c.index-sums-number.result own c.requires.sums c.loop-number-test.true c.index-sums-number.is inv.count
          c.is_asked-asked.ensures.later c.is_asked-asked.ensures.alive c.in_ok-own.ensures.solved c.in_ok-own.ensures.stands inv.owns);
    }
