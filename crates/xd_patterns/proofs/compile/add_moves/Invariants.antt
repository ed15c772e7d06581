use Rattle.std.proofs.Common.{take}
use Rattle.xd_patterns.specs.Compiling.{IsAdding, Spares}
use Rattle.xd_patterns.specs.Sources.{tables}
use Rattle.xd_patterns.proofs.compile.add_moves.Given as goal

abbrev pub invariant-loop-one : goal.invariant-loop-one
invariant-loop-one l =
    IsAdding (tables l.sources) l.marks l.initial.lists.cells l.lists.cells l.target.base l.initial.lists.states.keys l.lists.states.keys l.initial.auto' l.auto' l.target.from l.made.texts.items l.made.labels.items (take l.one-index l.one-items)
    × Spares l.target.base l.initial.auto' l.auto'
