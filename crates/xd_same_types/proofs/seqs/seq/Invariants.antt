use Rattle.std.proofs.Common.{◌≡◌, take}
use Rattle.xd_same_types.specs.Grown.{GrowsTypes}
use Rattle.xd_syntax.specs.Tree.{Seq, seq_of}
use Rattle.xd_syntax.specs.Types.{tree}
use Rattle.xd_same_types.specs.Same.{AreSeqParts, MeansSame, trees}
use Rattle.xd_same_types.proofs.seqs.seq.Given as goal

abbrev pub invariant-loop-part : goal.invariant-loop-part
invariant-loop-part l = record {
  keeps : GrowsTypes l.fn.pool.types l.pool.types;
  parts : AreSeqParts l.pool.types l.parts.items;
  others : AreSeqParts l.fn.pool.types l.part-items;
  same : MeansSame (seq_of (trees l.pool.types l.parts.items)) (Seq (tree l.fn.pool.types l.fn.one) (seq_of (trees l.fn.pool.types (take l.part-index l.part-items))));
  second : seq_of (trees l.fn.pool.types l.part-items) ≡ tree l.fn.pool.types l.fn.two;
}
