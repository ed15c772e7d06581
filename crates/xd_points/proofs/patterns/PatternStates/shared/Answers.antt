use Rattle.std.proofs.Common.{arith}
use Rattle.xd_auto.proofs.ExtendsLemmas.{keeps}
use Rattle.xd_points.proofs.PlaceLemmas.{extends_longer}
use Rattle.xd_points.proofs.patterns.PatternStates.shared.Goals as goal

pub returns-clause-serve : goal.returns-clause-serve
returns-clause-serve c a extends =
    let t = c.in_ok-taken.ensures in
    let count = c.len-count.ensures.value in
    let longer = extends_longer c.args.auto a extends in
    record {
      count = t.count;
      same = t.same;
      moves = t.moves;
      universal = t.universal;
      within = omega (arith, longer, count);
      shared = λ d s lt. keeps c.args.auto a c.len-count.ensures.closed extends d s (omega (arith, lt, count));
    }
