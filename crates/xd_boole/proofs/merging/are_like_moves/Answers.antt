use Rattle.std.proofs.Common.{rules, ◌≡◌, ◌<◌, true, length, arith}
use Rattle.xd_boole.proofs.MergeLemmas.{zip_more}
use Rattle.xd_boole.proofs.merging.are_like_moves.Goals as goal

pub loop-number-preserved : goal.loop-number-preserved
loop-number-preserved g c =
    let like : c.is_like.result ≡ true = search rules in
    let one : c.loop-number.number < length c.args.ones.now = omega arith in
    let other : c.loop-number.number < length c.args.others.now = omega arith in
    zip_more (g.M.Step.alike c.args.same.now c.args.compared) c.args.ones.now c.args.others.now c.loop-number.number c.index-ones-number.result c.index-others-number.result one other
    c.index-ones-number.is c.index-others-number.is c.loop-number.invariant (c.is_like.ensures like)
