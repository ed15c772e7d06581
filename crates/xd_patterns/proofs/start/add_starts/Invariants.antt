use Rattle.std.proofs.Common.{take}
use Rattle.xd_patterns.specs.Compiling.{Spares}
use Rattle.xd_patterns.specs.Starting.{AddsStarts}
use Rattle.xd_patterns.proofs.start.add_starts.Given as goal

abbrev pub invariant-loop-piece : goal.invariant-loop-piece
invariant-loop-piece l = record {
  starts : AddsStarts l.base (take l.piece-index l.pieces) l.cells l.states.keys l.initial.auto' l.auto' l.starts.items;
  spares : Spares l.base l.initial.auto' l.auto';
}
