use Rattle.std.proofs.Common.{◌≤◌, length, arith}
use Rattle.xd_boole.proofs.IsRedirectedLemmas.{redirected_accepts, redirected_tells}
use Rattle.xd_boole.proofs.merging.merged.Goals as goal

pub returns-clause-same : goal.returns-clause-same
returns-clause-same c =
    let all : length c.args.auto.now ≤ c.loop-number.number = omega (arith, c.len-number-end.ensures.value) in
    redirected_accepts c.args.auto.now c.in_ok-same.same.items c.loop-number.made c.loop-number.number c.in_ok-same.ensures all c.loop-number.invariant

pub returns-clause-moves : goal.returns-clause-moves
returns-clause-moves c =
    let all : length c.args.auto.now ≤ c.loop-number.number = omega (arith, c.len-number-end.ensures.value) in
    redirected_tells c.args.auto.now c.in_ok-same.same.items c.loop-number.made c.loop-number.number c.in_ok-same.ensures all c.loop-number.invariant
