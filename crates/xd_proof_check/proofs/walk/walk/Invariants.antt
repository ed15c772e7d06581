use Rattle.std.proofs.Common.{◌≡◌, drop}
use Rattle.xd_proof_check.specs.Paths.{IsPath, KeepsRoom, turns_of}
use Rattle.xd_proof_check.specs.Walk.{IsSetting, setting_of, turns_after, wrong_steps}
use Rattle.xd_proof_check.proofs.walk.walk.Given as goal

abbrev pub invariant-loop-step : goal.invariant-loop-step
invariant-loop-step l = record {
  path : IsPath l.setting.contents.now l.setting.rests.now l.path;
  setting : IsSetting (setting_of l.setting) l.path;
  found : wrong_steps (setting_of l.setting) (turns_of l.initial.path) l.steps ≡ wrong_steps (setting_of l.setting) (turns_of l.path) (drop l.step-index l.steps);
  turns : turns_after (turns_of l.initial.path) l.steps ≡ turns_after (turns_of l.path) (drop l.step-index l.steps);
  keeps : KeepsRoom l.initial.path l.path;
}
