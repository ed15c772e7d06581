use Rattle.xd_calls_states.proofs.types.show_sorts.Goals as goal

pub sorts-is_text-items-requires-clause-mirrors : goal.sorts-is_text-items-requires-clause-mirrors
sorts-is_text-items-requires-clause-mirrors c = (c.args.sound.now, c.args.auto.now, c.requires.mirrors)
