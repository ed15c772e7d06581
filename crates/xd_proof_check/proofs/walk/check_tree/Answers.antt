use Rattle.std.proofs.lemmas.Result.{IfOk-weaker}
use Rattle.xd_proof_check.specs.Paths.{turns_of}
use Rattle.xd_proof_check.specs.Walk.{setting_of}
use Rattle.xd_proof_check.proofs.SettingLemmas.{label_is, other_label_is, other_text_is, text_is, text_says, walk_clears, walk_says}
use Rattle.xd_proof_check.proofs.walk.check_tree.Goals as goal

pub returns-in-Label-clause-found : goal.returns-in-Label-clause-found
returns-in-Label-clause-found c =
    let s = setting_of c.args.setting.now in
    walk_says s c.args.steps.now (turns_of c.args.path.now) c.walk.result c.requires.clear.turns (label_is c.in-Label.field-0 s.atom c.in-Label.is) c.walk.ensures.found

pub returns-in-Label-clause-clear : goal.returns-in-Label-clause-clear
returns-in-Label-clause-clear c =
    let s = setting_of c.args.setting.now in
    walk_clears s c.args.steps.now s.contents s.rests (turns_of c.args.path.now) c.walk.new.path c.walk.result c.requires.clear.turns c.walk.ensures.path

pub returns-in-OtherLabel-clause-found : goal.returns-in-OtherLabel-clause-found
returns-in-OtherLabel-clause-found c =
    let s = setting_of c.args.setting.now in
    walk_says s c.args.steps.now (turns_of c.args.path.now) c.walk-in-OtherLabel.result c.requires.clear.turns (other_label_is s.atom c.in-OtherLabel.is)
    c.walk-in-OtherLabel.ensures.found

pub returns-in-OtherLabel-clause-clear : goal.returns-in-OtherLabel-clause-clear
returns-in-OtherLabel-clause-clear c =
    let s = setting_of c.args.setting.now in
    walk_clears s c.args.steps.now s.contents s.rests (turns_of c.args.path.now) c.walk-in-OtherLabel.new.path c.walk-in-OtherLabel.result c.requires.clear.turns c.walk-in-OtherLabel.ensures.path

pub returns-in-Text-clause-found : goal.returns-in-Text-clause-found
returns-in-Text-clause-found c =
    let s = setting_of c.args.setting.now in
    text_says s c.args.steps.now c.text_leaf.result (text_is c.in-Text.field-0 s.atom c.in-Text.is) c.text_leaf.ensures.found

pub returns-in-OtherText-clause-found : goal.returns-in-OtherText-clause-found
returns-in-OtherText-clause-found c =
    let s = setting_of c.args.setting.now in
    text_says s c.args.steps.now c.text_leaf-in-OtherText.result (other_text_is s.atom c.in-OtherText.is) c.text_leaf-in-OtherText.ensures.found

pub returns-in-Label-clause-keeps : goal.returns-in-Label-clause-keeps
returns-in-Label-clause-keeps c = c.walk.ensures.keeps

pub returns-in-OtherLabel-clause-keeps : goal.returns-in-OtherLabel-clause-keeps
returns-in-OtherLabel-clause-keeps c = c.walk-in-OtherLabel.ensures.keeps

pub returns-in-Text-clause-keeps : goal.returns-in-Text-clause-keeps
returns-in-Text-clause-keeps c = c.text_leaf.ensures.keeps

pub returns-in-OtherText-clause-keeps : goal.returns-in-OtherText-clause-keeps
returns-in-OtherText-clause-keeps c = c.text_leaf-in-OtherText.ensures.keeps

pub returns-in-Text-clause-clear : goal.returns-in-Text-clause-clear
returns-in-Text-clause-clear c = IfOk-weaker c.text_leaf.result _ _ (λ found h t e. h) c.text_leaf.ensures.clear

pub returns-in-OtherText-clause-clear : goal.returns-in-OtherText-clause-clear
returns-in-OtherText-clause-clear c = IfOk-weaker c.text_leaf-in-OtherText.result _ _ (λ found h t e. h) c.text_leaf-in-OtherText.ensures.clear
