use Rattle.std.proofs.Common.{◌≡◌, ◌++◌, take, flat_map}
use Rattle.xd_proof_write.specs.Written.{step_text}
use Rattle.xd_proof_write.proofs.lines.write_steps.Given as goal

abbrev pub invariant-loop-step : goal.invariant-loop-step
invariant-loop-step l = l.out.items ≡ l.fn.out.items ++ flat_map step_text (take l.step-index l.steps)
