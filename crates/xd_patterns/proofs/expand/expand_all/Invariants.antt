use Rattle.xd_patterns.specs.Expanding.{IsExpanding, all_steps}
use Rattle.xd_patterns.specs.Sources.{names_in, tables}
use Rattle.xd_patterns.proofs.expand.expand_all.Given as goal

abbrev pub invariant-loop-task : goal.invariant-loop-task
invariant-loop-task l =
    IsExpanding (names_in l.sources) (tables l.sources) l.fn.marks l.marks l.fn.cells l.cells l.number l.expansion.tasks.items l.expansion.found.keys l.seen.keys

abbrev pub decreases-loop-task : goal.decreases-loop-task
decreases-loop-task l = all_steps (names_in l.sources) (tables l.sources) l.marks l.cells l.expansion.tasks.items
