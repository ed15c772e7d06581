use Rattle.std.proofs.Common.{◌≡◌, ◌≤◌, length}
use Rattle.xd_meaning.specs.CanBeEmpty.{can_be_empty}
use Rattle.xd_syntax.specs.Tree.{seq_of}
use Rattle.xd_sound.specs.TypeNames.{meanings}
use Rattle.xd_moves.specs.Found.{continuation}
use Rattle.xd_heads.proofs.compile.is_last.Given as goal

abbrev pub invariant-loop-at : goal.invariant-loop-at
invariant-loop-at l = record {
  within : l.at ≤ length l.cells;
  same : can_be_empty (meanings l.sources.types.now l.sources.defs.now) (seq_of (continuation l.sources.types.now l.cells l.at)) ≡ can_be_empty (meanings l.sources.types.now l.sources.defs.now) (seq_of (continuation l.sources.types.now l.cells l.number));
}

abbrev pub decreases-loop-at : goal.decreases-loop-at
decreases-loop-at l = l.at
