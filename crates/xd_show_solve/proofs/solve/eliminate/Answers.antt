use Rattle.std.proofs.Common.{◌<◌, ◌≤◌, length, arith}
use Rattle.xd_show_solve.proofs.SystemLaws.{replaces_first_none, replaces_first_more, takes_out}
use Rattle.xd_show_solve.proofs.SumSteps.{stands_kept}
use Rattle.xd_same_types.proofs.Tables.{keeps_refl, keeps_then}
use Rattle.xd_show_solve.proofs.solve.eliminate.Goals as goal
use Rattle.xd_show_solve.proofs.ReduceLaws.{all_stand_kept}

pub loop-number-init : goal.loop-number-init
loop-number-init c = record {
  start = c.solved.ensures.keeps;
  keeps = keeps_refl _;
  stand = all_stand_kept _ _ c.solved.ensures.keeps c.args.sums.now.items c.requires.sums;
  own = c.in_ok-own.ensures.stands;
  replaced = replaces_first_none _ _ c.args.gone c.in_ok-own.own c.args.sums.now.items;
}

pub loop-number-preserved : goal.loop-number-preserved
loop-number-preserved c =
    let inv = c.loop-number.invariant in
    let l : c.loop-number.number < length c.args.sums.now.items = omega (arith, c.len-number-end.ensures, c.args.sums.now.ok.0) in
    record {
      start = inv.start;
      keeps = keeps_then _ _ _ inv.keeps c.replace_at.ensures.keeps;
      stand = c.in_ok-replace_at.ensures.stand;
      own = stands_kept _ _ c.replace_at.ensures.keeps c.in_ok-own.own inv.own;
      replaced = replaces_first_more _ _ _ (keeps_then _ _ _ inv.start inv.keeps) c.replace_at.ensures.keeps c.args.gone c.in_ok-own.own inv.own c.loop-number.number c.args.sums.now.items c.loop-number.sums.items c.replace_at.new.sums.items
          c.requires.sums inv.stand inv.replaced c.in_ok-replace_at.ensures.replaces l;
    }

pub returns-clause-out : goal.returns-clause-out
returns-clause-out c =
    let inv = c.loop-number.invariant in
    let l : length c.args.sums.now.items ≤ c.loop-number.number = omega (arith, c.len-number-end.ensures, c.args.sums.now.ok.0) in
    takes_out _ _ _ inv.keeps c.args.gone c.in_ok-own.own c.args.alive.now.items c.args.sums.now.items c.loop-number.sums.items _ c.requires.gone c.requires.count c.requires.alive c.index.ensures
    c.in_ok-own.ensures.solved c.in_ok-own.ensures.stands c.loop-number.number l inv.replaced
