use Rattle.std.proofs.Common.{◌≡◌, map, take}
use Rattle.xd_proof_make.specs.Places.{new_numbers}
use Rattle.xd_proof_make.specs.Ordered.{written_step}
use Rattle.xd_proof_make.proofs.cases.write_steps.Given as goal

abbrev pub invariant-loop-step : goal.invariant-loop-step
invariant-loop-step l = l.written.items ≡ map (written_step (new_numbers l.heads) l.goals) (take l.step-index l.steps)
