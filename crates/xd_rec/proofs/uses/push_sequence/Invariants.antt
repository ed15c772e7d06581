use Rattle.std.proofs.Common.{◌≡◌, ◌<◌, ◌++◌, length}
use Rattle.std.specs.List.{AllByRecursion}
use Rattle.xd_syntax.specs.Types.{type_numbers}
use Rattle.xd_rec.specs.Uses.{sequence, test_of}
use Rattle.xd_rec.proofs.uses.push_sequence.Given as goal

abbrev pub invariant-loop-id : goal.invariant-loop-id
invariant-loop-id l = record {
  below : AllByRecursion (λ i. i < length l.types) (type_numbers l.rest);
  listed : l.parts.items ++ sequence (test_of l.marks l.defs) l.types l.part.owner l.part.is_tail l.is_front (type_numbers l.rest)
      ≡ l.initial.parts.items ++ sequence (test_of l.marks l.defs) l.types l.part.owner l.part.is_tail l.part.is_front (type_numbers l.ids);
}

abbrev pub decreases-loop-id : goal.decreases-loop-id
decreases-loop-id l = length l.rest
