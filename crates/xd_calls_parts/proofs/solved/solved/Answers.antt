use Rattle.xd_calls_parts.proofs.WrittenForAll.{all_written, written_belong}
use Rattle.xd_calls_parts.proofs.solved.solved.Goals as goal

pub state_type-requires-clause-contents : goal.state_type-requires-clause-contents
state_type-requires-clause-contents c =
    all_written c.args.auto.now c.args.any c.args.written.now c.in_ok-level.level.states.items c.len-states.ensures.closed c.in_ok-level.ensures.whole.level.belong c.requires.written

pub state_type-requires-clause-written : goal.state_type-requires-clause-written
state_type-requires-clause-written c = written_belong _ c.args.any c.args.written.now c.requires.written c.args.pool.now.types c.requires.any
