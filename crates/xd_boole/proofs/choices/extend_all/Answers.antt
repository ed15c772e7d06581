use Rattle.xd_boole.proofs.ChoiceLemmas.{extends_more}
use Rattle.xd_boole.proofs.choices.extend_all.Goals as goal

pub loop-choice-preserved : goal.loop-choice-preserved
loop-choice-preserved c =
    extends_more c.args.universal.now c.args.side c.in-Some.choice c.args.choices.items c.loop-choice.extended.items _ c.loop-choice.choices.items c.pop.new.self.items
    c.in_ok-extended.ensures c.in-Some.ensures.items c.loop-choice.invariant
