use Rattle.std.proofs.Common.{◌≤◌, length, arith, ◌∙◌}
use Rattle.xd_boole.proofs.IsRedirectedLemmas.{redirected_accepts}
use Rattle.xd_boole.proofs.bisimilar.merged_from.Goals as goal

pub returns-clause-same : goal.returns-clause-same
returns-clause-same c =
    let all : length c.args.auto.now ≤ c.loop-number.number = omega (arith, c.len-number-end.ensures.value) in
    let e = c.stand_in.ensures in
    let k = c.deref-2.ensures.value in
    λ d. redirected_accepts c.args.auto.now c.in_ok-same.same.items c.loop-number.made c.loop-number.number c.in_ok-same.ensures all c.loop-number.invariant d c.stand_in.result
    ∙ (let a = c.in_ok-same.ensures.accept d c.args.state in cc)
