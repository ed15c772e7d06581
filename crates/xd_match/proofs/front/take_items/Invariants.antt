use Rattle.xd_auto.specs.Kept.{AreRight}
use Rattle.xd_patterns.specs.Held.{marking_of, variables_in}
use Rattle.xd_match.specs.Taking.{AreTaken, work}
use Rattle.xd_match.proofs.front.take_items.Given as goal

abbrev pub invariant-loop-task : goal.invariant-loop-task
invariant-loop-task l = record {
  right : AreRight l.compiled.auto l.store l.answers;
  taken : AreTaken l.compiled.auto (marking_of l.compiled.marked) (variables_in l.compiled.marked) l.store l.fn.start l.items.items l.tasks.items;
}

abbrev pub decreases-loop-task : goal.decreases-loop-task
decreases-loop-task l = work l.store l.tasks.items
