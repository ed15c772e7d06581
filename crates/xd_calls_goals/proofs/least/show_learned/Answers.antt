use Rattle.xd_calls_goals.proofs.least.show_learned.Goals as goal

pub learn-requires : goal.learn-requires
learn-requires c = c.new-known.ensures _ _
