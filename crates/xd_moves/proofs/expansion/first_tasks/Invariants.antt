use Rattle.xd_moves.proofs.WorkedTaskLemmas.{AreFirstTasks}
use Rattle.xd_sound.specs.TypeNames.{meanings}
use Rattle.xd_moves.proofs.expansion.first_tasks.Given as goal

abbrev pub invariant-loop-at : goal.invariant-loop-at
invariant-loop-at l = AreFirstTasks (meanings l.sources.types.now l.sources.defs.now) l.sources.types.now l.cells l.number l.at l.tasks.items

abbrev pub decreases-loop-at : goal.decreases-loop-at
decreases-loop-at l = l.at
