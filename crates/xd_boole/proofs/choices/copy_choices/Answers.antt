use Rattle.xd_boole.proofs.ChoiceLemmas.{copies_all, copies_more}
use Rattle.xd_boole.proofs.choices.copy_choices.Goals as goal

pub loop-choice-preserved : goal.loop-choice-preserved
loop-choice-preserved c =
    copies_more c.args.choices.now c.loop-choice.choice-index c.choice-item.result c.in_ok-copy.copy c.loop-choice.copies.items c.push.new.self.items c.loop-choice-test.true c.choice-item.is
    c.in_ok-copy.ensures.contents c.in_ok-copy.ensures.rests c.in_ok-push.ensures.items c.loop-choice.invariant

pub returns : goal.returns
returns c = copies_all c.args.choices.now c.loop-choice.choice-index c.loop-choice.copies.items c.loop-choice-test.false c.loop-choice.invariant
