use Rattle.std.proofs.Common.{take}
use Rattle.xd_same_types.specs.Same.{AreSeqParts}
use Rattle.xd_named_parts.proofs.forms.are_seq_parts.Given as goal

abbrev pub invariant-loop-number : goal.invariant-loop-number
invariant-loop-number l = AreSeqParts l.pool.types (take l.number l.ids)
