use Rattle.xd_proof_check.specs.Paths.{turns_of}
use Rattle.xd_proof_check.specs.Walk.{setting_of}
use Rattle.xd_proof_check.proofs.SettingLemmas.{text_clears, setting_kept}
use Rattle.xd_proof_check.proofs.walk.text_leaf.Goals as goal

pub returns-clause-clear : goal.returns-clause-clear
returns-clause-clear c =
    let s = setting_of c.args.setting.now in
    text_clears s.contents s.rests s.atom s.kinds (turns_of c.put_matching.new.path) c.rest_step.new.path c.rest_step.result c.in_ok-put_matching.ensures.turns c.rest_step.ensures.path

pub rest_step-requires-clause-setting : goal.rest_step-requires-clause-setting
rest_step-requires-clause-setting c = setting_kept (setting_of c.args.setting.now) c.args.path.now c.put_matching.new.path c.in_ok-put_matching.ensures.keeps c.requires.setting
