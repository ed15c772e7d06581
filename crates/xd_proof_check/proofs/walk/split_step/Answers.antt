use Rattle.xd_proof_check.proofs.walk.split_step.Goals as goal

pub take-requires-clause-room : goal.take-requires-clause-room
take-requires-clause-room c = c.requires.setting.room

pub take-requires-clause-path : goal.take-requires-clause-path
take-requires-clause-path c = c.requires.path

pub returns-clause-keeps : goal.returns-clause-keeps
returns-clause-keeps c = c.in_ok-take.ensures.keeps
