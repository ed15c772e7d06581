use Rattle.std.proofs.Common.{◌<◌, ◌≤◌, length, arith}
use Rattle.xd_same_types.proofs.Tables.{keeps_refl, keeps_then}
use Rattle.xd_show_solve.proofs.RoundLaws.{stand_before, takes_first_all, takes_first_more, takes_first_none}
use Rattle.xd_show_solve.proofs.rounds.take_each.Goals as goal

pub loop-number-init : goal.loop-number-init
loop-number-init c = record {
  keeps = keeps_refl _;
  stand = c.requires.sums;
  takes = takes_first_none _ _ _;
}

pub take_at-requires-clause-owns : goal.take_at-requires-clause-owns
take_at-requires-clause-owns c = stand_before _ _ c.loop-number.invariant.keeps c.args.owns.now c.requires.owns

pub loop-number-preserved : goal.loop-number-preserved
loop-number-preserved c =
    let inv = c.loop-number.invariant in
    let l : c.loop-number.number < length c.args.sums.now.items = omega (arith, c.len-number-end.ensures, c.args.sums.now.ok.0) in
    record {
      keeps = keeps_then _ _ _ inv.keeps c.take_at.ensures.keeps;
      stand = c.in_ok-take_at.ensures.stand;
      takes = takes_first_more _ _ _ inv.keeps c.take_at.ensures.keeps c.args.owns.now c.requires.owns c.loop-number.number c.args.sums.now.items c.loop-number.sums.items c.take_at.new.sums.items c.requires.sums inv.stand inv.takes c.in_ok-take_at.ensures.takes l;
    }

pub returns-clause-takes : goal.returns-clause-takes
returns-clause-takes c =
    let inv = c.loop-number.invariant in
    let l : length c.args.sums.now.items ≤ c.loop-number.number = omega (arith, c.len-number-end.ensures, c.args.sums.now.ok.0) in
    takes_first_all _ _ c.args.owns.now c.loop-number.number c.args.sums.now.items c.loop-number.sums.items l inv.takes
