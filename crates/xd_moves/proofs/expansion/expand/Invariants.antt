use Rattle.xd_continuations.specs.Expansion.{work_left}
use Rattle.xd_sound.specs.TypeNames.{meanings}
use Rattle.xd_moves.specs.Cells.{StayChosen}
use Rattle.xd_moves.specs.Found.{waiting_at}
use Rattle.xd_moves.proofs.WorkedTaskLemmas.{IsExpanding}
use Rattle.xd_moves.proofs.expansion.expand.Given as goal

abbrev pub invariant-loop-task : goal.invariant-loop-task
invariant-loop-task g l = record {
  expanding : IsExpanding l.sources.types.now l.sources.defs.now l.fn.cells l.number l.cells l.tasks.items l.found.items;
  chosen : StayChosen (g.S.StandIns.chosen l.sources.types.now l.stand_ins) l.fn.cells l.cells;
}

abbrev pub decreases-loop-task : goal.decreases-loop-task
decreases-loop-task g l = work_left (meanings l.sources.types.now l.sources.defs.now) (waiting_at l.sources.types.now l.cells l.tasks.items)
