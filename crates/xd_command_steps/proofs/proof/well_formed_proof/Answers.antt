use Rattle.xd_command_steps.proofs.proof.well_formed_proof.Goals as goal

pub returns-in-Ok-clause-step : goal.returns-in-Ok-clause-step
returns-in-Ok-clause-step c = c.in-Ok.ensures.read
