use Rattle.std.proofs.Common.{◌+◌, ◌/◌, ◌<◌, ◌≤◌, arith, length, rules}
use Rattle.xd_auto.proofs.KeepsAnswerLemmas.{room_less}
use Rattle.xd_auto.proofs.membership.member.Goals as goal

pub unreachable-requires : goal.unreachable-requires
unreachable-requires c =
    let below : c.in-Some.node < c.scratch.inside.nodes = search rules in
    let narrow : length c.args.auto.now ≤ c.scratch.inside.states = search rules in
    let tall : c.scratch.inside.nodes ≤ _ = c.scratch.invariant.1 in
    c.in-Err.ensures.full
    (room_less c.clear.new.self.rows.items c.scratch.inside.states (c.scratch.inside.nodes / 32 + 1) _ _ (c.clear.ensures.room _ _ c.scratch.invariant.0) narrow (omega arith))
    (omega arith)

pub invariant_of-scratch : goal.invariant_of-scratch
invariant_of-scratch c = (
  c.walk.ensures.room _ _ (c.clear.ensures.room _ _ c.scratch.invariant.0),
  omega (arith, c.walk.ensures.capacity, c.scratch.invariant.1),
  c.in-Ok.ensures.stack,
)
