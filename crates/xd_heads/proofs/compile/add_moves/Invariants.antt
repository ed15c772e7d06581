use Rattle.std.proofs.Common.{take}
use Rattle.xd_heads.specs.Compiled.{SparesOthers}
use Rattle.xd_heads.proofs.AddingMoves.{IsAdding}
use Rattle.xd_heads.proofs.compile.add_moves.Given as goal

abbrev pub invariant-loop-one : goal.invariant-loop-one
invariant-loop-one l =
    IsAdding l.sources.types.now l.sources.defs.now l.initial.made.cells l.made.cells l.initial.made.states l.made.states l.initial.auto' l.auto' l.from (take l.one-index l.one-items)
    × SparesOthers l.from l.initial.auto' l.auto'
