use Rattle.xd_calls_proofs.proofs.KnownLemmas.{stays_known}
use Rattle.xd_calls_proofs.proofs.states.named_type.Goals as goal

pub returns-in_err-id-clause-keeps : goal.returns-in_err-id-clause-keeps
returns-in_err-id-clause-keeps c id = stays_known c.args.sound.now c.find_type.new.self id c.find_type.ensures.adds c.find_type.ensures.same

pub returns-in-Some-clause-keeps : goal.returns-in-Some-clause-keeps
returns-in-Some-clause-keeps c id = stays_known c.args.sound.now c.find_type.new.self id c.find_type.ensures.adds c.find_type.ensures.same

pub returns-in-None-clause-keeps : goal.returns-in-None-clause-keeps
returns-in-None-clause-keeps c id = stays_known c.args.sound.now c.find_type.new.self id c.find_type.ensures.adds c.find_type.ensures.same
