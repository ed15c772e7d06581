use Rattle.std.proofs.Common.{◌≡◌, ◌∷◌, length}
use Rattle.xd_syntax.specs.Words.{any_word}
use Rattle.xd_show.proofs.ContentLaws.{AreBodiesBelow}
use Rattle.xd_show.specs.Contents.{GrowsNames}
use Rattle.xd_show.proofs.bodies.bodies_by.Given as goal

abbrev pub invariant-loop-number : goal.invariant-loop-number
invariant-loop-number l = record {
  grows : GrowsNames (any_word ∷ l.names) l.fn.pool.types l.pool.types;
  count : length l.made.items ≡ l.number;
  each : AreBodiesBelow l.auto' l.names l.named l.fn.pool.types l.written l.pool.types l.made.items l.number;
}
