use Rattle.std.proofs.Common.{refl, arith, ◌∙◌}
use Rattle.xd_points.proofs.GrowsLemmas.{keeps_same}
use Rattle.xd_points.proofs.table.expand_all.Goals as goal

pub loop-number-init : goal.loop-number-init
loop-number-init c = record {
  expanded = c.requires.expanded;
  keeps = keeps_same c.args.points.now;
  moves = λ i lt. refl;
  longer = omega arith;
  count = omega (arith, c.len-number.ensures, c.args.rows.now.ok.0);
}

pub loop-number-preserved : goal.loop-number-preserved
loop-number-preserved c =
    let before = c.loop-number.invariant in
    let now = c.in_ok-expand.ensures in
    record {
      expanded = now.expanded;
      keeps = record { longer = omega (arith, before.keeps.longer, now.grows.longer); points = λ i lt. now.grows.points i (omega (arith, lt, before.keeps.longer)) ∙ before.keeps.points i lt };
      moves = λ i lt. now.moves i (omega (arith, lt, before.longer)) ∙ before.moves i lt;
      longer = omega (arith, before.longer, now.count);
      count = omega (arith, before.count, now.count);
    }

pub returns-clause-every : goal.returns-clause-every
returns-clause-every c =
    let h = c.loop-number.invariant in
    omega (arith, h.expanded.within, h.count, c.loop-number-test.false, c.len.ensures, c.loop-number.points.points.ok.0)
