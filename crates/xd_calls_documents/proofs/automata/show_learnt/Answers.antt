use Rattle.xd_calls_documents.proofs.automata.show_learnt.Goals as goal

pub learn-requires : goal.learn-requires
learn-requires c = c.new-known.ensures c.args.fixture.now.auto c.args.fixture.now.store
