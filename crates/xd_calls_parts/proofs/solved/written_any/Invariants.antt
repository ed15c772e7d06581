use Rattle.xd_calls_parts.specs.Written.{IsWrittenForAll}
use Rattle.xd_calls_parts.proofs.solved.written_any.Given as goal

abbrev pub invariant-loop-number : goal.invariant-loop-number
invariant-loop-number l = IsWrittenForAll l._number l.any l.made.items
