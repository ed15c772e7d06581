use Rattle.std.proofs.Common.{◌≤◌, length}
use Rattle.xd_patterns.specs.Compiling.{IsCompiling, Spares, rows_in}
use Rattle.xd_patterns.specs.Sources.{names_in, tables}
use Rattle.xd_patterns.proofs.compile.compile_into.Given as goal

abbrev pub invariant-loop-done : goal.invariant-loop-done
invariant-loop-done l =
    IsCompiling (names_in l.sources) (tables l.sources) l.fn.marks l.marks l.fn.lists.cells l.lists.cells l.base l.fn.lists.states.keys l.lists.states.keys l.fn.auto l.auto' l.done (rows_in l.table.items)
    × (l.done ≤ length l.lists.states.keys)
    × Spares l.base l.fn.auto l.auto'
