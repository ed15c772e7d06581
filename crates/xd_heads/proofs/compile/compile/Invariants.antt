use Rattle.std.proofs.Common.{◌-◌, length}
use Rattle.xd_continuations.specs.Bounds.{longest}
use Rattle.xd_moves.specs.Cells.{room}
use Rattle.xd_sound.specs.TypeNames.{meanings}
use Rattle.xd_heads.specs.Compiled.{AreSorted}
use Rattle.xd_heads.specs.Sorts.{rows_of}
use Rattle.xd_heads.specs.States.{nodes_in}
use Rattle.xd_heads.proofs.AddingMoves.{IsCompiling}
use Rattle.xd_heads.proofs.compile.compile.Given as goal

abbrev pub invariant-loop-number : goal.invariant-loop-number
invariant-loop-number l = record {
  compiling : IsCompiling l.sources.types.now l.sources.defs.now l.fn.made.cells l.made.cells l.fn.made.states l.made.states l.fn.first l.fn.auto l.auto' l.done;
  sorted : AreSorted l.sources.types.now l.sources.defs.now l.made.cells l.made.states (rows_of l.rows.items) l.done;
}

abbrev pub decreases-loop-number : goal.decreases-loop-number
decreases-loop-number l = room (length l.sources.types.now) (longest (meanings l.sources.types.now l.sources.defs.now) (nodes_in l.sources.types.now)) - l.done
