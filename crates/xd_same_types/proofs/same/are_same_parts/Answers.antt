use Rattle.std.proofs.Common.{◌≡◌, length, arith}
use Rattle.xd_same_types.proofs.Ids.{same_at_each}
use Rattle.xd_same_types.proofs.same.are_same_parts.Goals as goal

pub returns : goal.returns
returns c = λ e.
    let l : length c.args.ones.now ≡ length c.args.others.now = omega arith in
    same_at_each c.args.ones.now c.args.others.now l (λ k d b. c.loop-number.invariant k d (omega arith))
