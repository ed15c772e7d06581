use Rattle.xd_continuations.proofs.TheLaws.{tasks_stand_in, tasks_step, tasks_give}
use Rattle.xd_continuations.proofs.tasks_give_moves.Goals as goal

pub returns : goal.returns
returns c = record { stand = tasks_stand_in; step = tasks_step; give = tasks_give }
