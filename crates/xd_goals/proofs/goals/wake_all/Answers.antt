use Rattle.xd_goals.proofs.IsWokenRowLemmas.{WakesTo-start}
use Rattle.xd_goals.proofs.goals.wake_all.Goals as goal

pub loop-at-init : goal.loop-at-init
loop-at-init c = WakesTo-start _ _ _ c.requires.first
