use Rattle.xd_goals.proofs.IsWalkedLemmas.{reaches_choice, reaches_none}
use Rattle.xd_goals.proofs.settled.reach_choices.Goals as goal

pub loop-choice-init : goal.loop-choice-init
loop-choice-init c = reaches_none c.args.nodes.now c.args.found.now.keys

pub loop-choice-preserved : goal.loop-choice-preserved
loop-choice-preserved c =
    reaches_choice c.args.nodes.now c.args.choices.now c.loop-choice.choice-index c.choice-item.result c.args.found.now.keys c.loop-choice.found.keys c.reach_leaves.new.found.keys c.loop-choice-test.true c.choice-item.is
    c.loop-choice.invariant c.in_ok-reach_leaves.ensures
