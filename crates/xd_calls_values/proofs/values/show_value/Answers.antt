use Rattle.xd_calls_values.proofs.values.show_value.Goals as goal

pub evaluate_with-requires-clause-serves : goal.evaluate_with-requires-clause-serves
evaluate_with-requires-clause-serves c = c.stays_serving.ensures c.args.checked.now c.args.store.now c.read_document.new.store c.requires.serves c.read_document.ensures.keeps
