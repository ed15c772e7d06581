use Rattle.std.proofs.Common.{◌≡◌, drop}
use Rattle.xd_proof_check.specs.Atoms.{kinds_of}
use Rattle.xd_proof_check.specs.Paths.{IsPath, KeepsRoom, turns_of}
use Rattle.xd_proof_check.specs.Walk.{IsSetting, rest_turns, setting_of}
use Rattle.xd_proof_check.proofs.walk.put_matching.Given as goal

abbrev pub invariant-loop-right : goal.invariant-loop-right
invariant-loop-right l = record {
  path : IsPath l.setting.contents.now l.setting.rests.now l.path;
  setting : IsSetting (setting_of l.setting) l.path;
  turns : turns_of l.path ≡ rest_turns l.setting.atom.now l.right (kinds_of (drop l.right l.setting.rights.now));
  keeps : KeepsRoom l.initial.path l.path;
}
