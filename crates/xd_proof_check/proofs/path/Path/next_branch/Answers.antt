use Rattle.xd_proof_check.proofs.PathLemmas.{room_kept}
use Rattle.xd_proof_check.proofs.path.Path.next_branch.Goals as goal

pub take-requires-clause-room : goal.take-requires-clause-room
take-requires-clause-room c = room_kept c.args.contents.now c.args.rests.now _ c.leave.new.self c.leave.ensures.keeps (record { content = c.loop-turn.invariant.room.content; rest = c.loop-turn.invariant.room.rest; split = c.loop-turn.invariant.room.split; same = c.loop-turn.invariant.room.same })
