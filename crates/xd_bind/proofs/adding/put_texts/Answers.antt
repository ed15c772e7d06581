use Rattle.xd_empty.proofs.PartLemmas.{changes_trans}
use Rattle.xd_bind.proofs.ChangeLemmas.{text_put}
use Rattle.xd_bind.proofs.adding.put_texts.Goals as goal

pub loop-step-preserved : goal.loop-step-preserved
loop-step-preserved c = record {
  can = tt;
  finite = tt;
  put = text_put c.args.auto.now c.loop-step.auto' c.add_text_move.new.self c.args.at c.loop-step.yielded c.in-Some.step c.requires.at c.loop-step.invariant.put c.in_ok-add_text_move.ensures.ok
      c.in_ok-add_text_move.ensures.others;
  others = changes_trans c.args.at c.args.auto.now c.loop-step.auto' c.add_text_move.new.self c.loop-step.invariant.others c.in_ok-add_text_move.ensures.others;
}
