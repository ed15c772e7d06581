use Rattle.std.proofs.Common.{◌≡◌, [], append-nil, arith, replicate}
use Rattle.xd_empty.proofs.UsesLemmas.{bare_more}
use Rattle.xd_empty.proofs.uses.Uses.bare.Goals as goal

pub loop-init : goal.loop-init
loop-init c = rw c.new-lists.ensures.items (append-nil (replicate c.args.first []))

pub loop-preserved : goal.loop-preserved
loop-preserved c = rw c.in_ok-push.ensures.items (bare_more c.args.first c.loop.counter c.loop.lists.items c.new.result c.new.ensures.items c.loop.invariant)

pub returns-clause-lists : goal.returns-clause-lists
returns-clause-lists c =
    let all : c.loop.counter ≡ c.args.end = omega arith in
    rw (← all) c.loop.invariant
