use Rattle.std.proofs.Common.{◌+◌, ◌-◌, ◌≤◌, drop, length}
use Rattle.xd_proof.proofs.StepLemmas.{IsUnderWay, texts}
use Rattle.xd_proof.proofs.steps.read_steps.Given as goal

abbrev pub invariant-loop-step : goal.invariant-loop-step
invariant-loop-step l = record {
  way : IsUnderWay (texts l.words) (texts (drop l.at l.words)) l.wanted l.steps.items;
  within : l.at ≤ length l.words;
  few : l.wanted ≤ l.at + 1;
}

abbrev pub decreases-loop-step : goal.decreases-loop-step
decreases-loop-step l = length l.words - l.at
