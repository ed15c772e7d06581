use Rattle.std.proofs.Common.{◌-◌, ◌∷◌, ◌∙◌, ap, arith, false, sym, true}
use Rattle.xd_proof_check.specs.Walk.{setting_of}
use Rattle.xd_proof_check.proofs.PathLemmas.{keeps_then}
use Rattle.xd_proof_check.proofs.SettingLemmas.{length-kinds_of, rest_turn, rest_turns_more, setting_kept}
use Rattle.xd_proof_check.proofs.walk.put_matching.Goals as goal

pub loop-right-preserved-in-Continue-1 : goal.loop-right-preserved-in-Continue-1
loop-right-preserved-in-Continue-1 c = record {
  path = c.in_ok-take.ensures.path;
  setting = setting_kept (setting_of c.args.setting.now) c.loop-right.path c.take.new.self c.in_ok-take.ensures.keeps c.loop-right.invariant.setting;
  turns = c.in_ok-take.ensures.turns ∙ ap (λ ts. rest_turn (c.loop-right.right - 1) ∷ ts) c.loop-right.invariant.turns
      ∙ sym (rest_turns_more c.args.setting.now.atom.now c.args.setting.now.rights.now c.loop-right.right c.index-setting-right.result true c.loop-right-test.true c.loop-right.auto.right c.if-matches.ensures);
  keeps = keeps_then c.args.path.now c.loop-right.path c.take.new.self c.loop-right.invariant.keeps c.in_ok-take.ensures.keeps;
}

pub loop-right-preserved : goal.loop-right-preserved
loop-right-preserved c = record {
  path = c.loop-right.invariant.path;
  setting = c.loop-right.invariant.setting;
  turns = c.loop-right.invariant.turns ∙ sym (rest_turns_more c.args.setting.now.atom.now c.args.setting.now.rights.now c.loop-right.right c.index-setting-right.result false c.loop-right-test.true c.loop-right.auto.right c.if-matches.ensures);
  keeps = c.loop-right.invariant.keeps;
}

pub take-requires-clause-within : goal.take-requires-clause-within
take-requires-clause-within c = omega (arith, c.loop-right.auto.right, c.loop-right-test.true, c.requires.setting.heads, length-kinds_of c.args.setting.now.rights.now)

pub take-requires-clause-room : goal.take-requires-clause-room
take-requires-clause-room c = c.loop-right.invariant.setting.room
